use borrow.Author.Rules.{rules}
use Rattle.cipher_bytes.specs.ListLaws.{spelled, spell}
use Rattle.cipher_key_schedule.proofs.joined.Goals as goal

pub returns : goal.returns
unfolding spelled
returns c = rw (spell 4 c.args.a (search rules), spell 4 c.args.b (search rules))
