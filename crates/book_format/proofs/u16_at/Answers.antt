use mathlib.Core.Path.{sym, ◌∙◌}
use Rattle.planbook_laws.specs.WalkLaws.{number_two}
use borrow.Author.Rules.{rules}
use Rattle.book_format.proofs.u16_at.Goals as goal

pub returns : goal.returns
returns c = c.from.ensures ∙ c.from_be_bytes.ensures ∙ sym (number_two c.args.at c.args.src.now (search rules))
