use Rattle.clefia_spec.specs.Block.{encrypt_under}
use Rattle.cipher_block.proofs.Cipher.encrypt_block.Goals as goal

pub returns : goal.returns
unfolding encrypt_under
returns g c =
    rw (c.store.ensures, c.encrypt_words.ensures, c.load.ensures)
