use Rattle.std.proofs.Common.{rules}
use Rattle.cipher_sbox.specs.Boxes.{byte_tables_at}
use Rattle.cipher_tables.proofs.boxes.ByTablesBoxes.substitute.Goals as goal

pub returns : goal.returns
returns c = rw c.table.ensures (byte_tables_at c.args.i c.args.x (search rules) (search rules))
