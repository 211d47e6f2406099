use mathlib.Core.Path.{sym}
use Rattle.clefia_spec.specs.Words.{to_digits, digits_of}
use Rattle.cipher_bytes.specs.ListLaws.{spelled, spell, put_four, word_at, four_words}
use borrow.Author.Rules.{rules}
use Rattle.cipher_bytes.proofs.exchange.Goals as goal

pub returns : goal.returns
unfolding spelled put_four to_digits digits_of word_at
returns c =
    record {
      read =
          rw (
            c.word-a.ensures,
            c.word-b.ensures,
            c.word-c.ensures,
            c.word-d.ensures,
          )
          (sym (four_words c.args.src.now c.args.from));
      written =
          rw (
            c.put_word-4.ensures,
            c.put_word-3.ensures,
            c.put_word-2.ensures,
            c.put_word.ensures,
            spell 16 c.args.dst.now c.requires.dst_len,
            spell 4 c.args.s (search rules),
          );
    }
