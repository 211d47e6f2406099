use Rattle.std.proofs.Common.{rules}
use Rattle.clefia_spec.specs.Words.{to_digits, digits_of, xors}
use Rattle.cipher_bytes.specs.ListLaws.{spelled, spell, put_four, word_at, four_words}
use Rattle.note_blocks.proofs.add_words.Goals as goal

pub returns : goal.returns
unfolding spelled put_four to_digits digits_of xors word_at
returns c =
    rw (
      c.put_word-4.ensures,
      c.put_word-3.ensures,
      c.put_word-2.ensures,
      c.put_word.ensures,
      c.word-4.ensures,
      c.word-3.ensures,
      c.word-2.ensures,
      c.word.ensures,
      four_words c.args.src.now c.args.at,
      spell 16 c.args.dst.now c.requires.dst_len,
      spell 4 c.args.s (search rules),
    )
