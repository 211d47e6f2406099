use Rattle.clefia_spec.specs.Block.{decrypt_under}
use Rattle.cipher_block.proofs.Cipher.decrypt_block.Goals as goal

pub returns : goal.returns
unfolding decrypt_under
returns g c =
    rw (c.store.ensures, c.decrypt_words.ensures, c.load.ensures)
