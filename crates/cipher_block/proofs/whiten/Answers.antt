use borrow.Author.Rules.{rules}
use Rattle.clefia_spec.specs.Block.{whiten}
use Rattle.clefia_spec.specs.Words.{xors}
use Rattle.cipher_bytes.specs.ListLaws.{spelled, spell}
use Rattle.cipher_block.proofs.whiten.Goals as goal

pub returns : goal.returns
unfolding spelled xors whiten
returns c = rw (spell 4 c.args.s (search rules))
