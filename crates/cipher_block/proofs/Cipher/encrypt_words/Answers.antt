use Rattle.clefia_spec.specs.Block.{round_count, encrypt_words}
use Rattle.cipher_block.proofs.Cipher.encrypt_words.Goals as goal

pub returns : goal.returns
unfolding round_count encrypt_words
returns g c =
    rw (
      c.whiten-2.ensures,
      c.network-t.ensures,
      c.whiten.ensures,
      c.round_count.ensures,
    )
