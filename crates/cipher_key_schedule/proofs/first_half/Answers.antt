use borrow.Author.Rules.{rules}
use Rattle.cipher_bytes.specs.ListLaws.{spelled, spell}
use Rattle.cipher_key_schedule.proofs.first_half.Goals as goal

pub returns : goal.returns
unfolding spelled
returns c = rw (spell 8 c.args.s (search rules))
