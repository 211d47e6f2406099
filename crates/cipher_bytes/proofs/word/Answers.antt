use mathlib.Core.Path.{◌∙◌, ap, sym}
use borrow.Author.Rules.{rules}
use Rattle.clefia_spec.specs.Words.{four_at, from_digits}
use Rattle.cipher_bytes.specs.ListLaws.{four_at_lem}
use Rattle.cipher_bytes.proofs.word.Goals as goal

pub returns : goal.returns
unfolding four_at
returns c =
    c.join.ensures ∙ ap (from_digits 256) (sym (four_at_lem c.args.src.now c.args.at (search rules)))
