use Rattle.clefia_spec.specs.Block.{round_count, encrypt_words}
use Rattle.cipher_block_four_way.proofs.encrypt_each.Goals as goal

pub returns : goal.returns
unfolding round_count encrypt_words
returns g c =
    rw (
      c.whiten_each-2.ensures,
      c.network4_each-t.ensures,
      c.whiten_each.ensures,
      c.round_count.ensures,
    )
