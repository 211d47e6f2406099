use mathlib.Core.Path.{sym}
use Rattle.clefia_spec.specs.Words.{complement}
use Rattle.cipher_bytes.specs.ListLaws.{word_at}
use Rattle.cipher_key_schedule.specs.Keys.{extended}
use Rattle.cipher_key_schedule.proofs.extend_key.Goals as goal

pub returns : goal.returns
unfolding complement word_at
returns c =
    rw (
      c.word.ensures,
      c.word-2.ensures,
      c.word-3.ensures,
      c.word-4.ensures,
    )
    (sym (extended c.args.key.now))
