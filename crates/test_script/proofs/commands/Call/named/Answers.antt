-- The two longest names: the length and each byte were tested.
use Rattle.std.proofs.Common.{sym, arith, rules}
use Rattle.std.proofs.lemmas.Slice.Eq.{text_from_reads}
use Rattle.test_script.proofs.commands.Call.named.Goals as goal

pub returns-in-101-2 : goal.returns-in-101-2
returns-in-101-2 c = sym (text_from_reads c.args.name.now _ (omega arith) (search rules))

pub returns-in-100 : goal.returns-in-100
returns-in-100 c = sym (text_from_reads c.args.name.now _ (omega arith) (search rules))
