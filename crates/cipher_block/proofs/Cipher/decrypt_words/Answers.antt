use Rattle.clefia_spec.specs.Block.{round_count, decrypt_words}
use Rattle.cipher_block.proofs.Cipher.decrypt_words.Goals as goal

pub returns : goal.returns
unfolding round_count decrypt_words
returns g c =
    rw (
      c.whiten-2.ensures,
      c.inverse_network-t.ensures,
      c.whiten.ensures,
      c.round_count.ensures,
    )
