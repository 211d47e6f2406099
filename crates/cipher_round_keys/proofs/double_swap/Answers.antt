use mathlib.Core.Path.{sym}
use borrow.Author.Rules.{rules}
use Rattle.cipher_bytes.specs.ListLaws.{spelled, spell}
use Rattle.cipher_round_keys.specs.Swap.{swapped}
use Rattle.cipher_round_keys.proofs.double_swap.Goals as goal

pub returns : goal.returns
unfolding spelled
returns c = rw (spell 4 c.args.x (search rules)) (sym (swapped _ _ _ _))
