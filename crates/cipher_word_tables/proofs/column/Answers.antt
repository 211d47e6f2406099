use Rattle.std.proofs.Common.{rules}
use Rattle.cipher_ffunction.specs.ColumnLaws.{word_at}
use Rattle.cipher_word_tables.proofs.column.Goals as goal

pub returns : goal.returns
returns c = rw c.table.ensures (word_at c.args.f c.args.j c.args.x (search rules) (search rules) (search rules))
