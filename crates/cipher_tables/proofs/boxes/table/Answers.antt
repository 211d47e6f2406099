-- `cipher_tables::boxes::table` meets its contract: the rule is computed at each byte.
use Rattle.std.specs.Prelude.{◌≡◌}
use Rattle.std.proofs.Common.{arith}
use Rattle.cipher_gf256.specs.Values.{values}
use Rattle.cipher_sbox.specs.Boxes.{all_byte_tables}
use Rattle.cipher_sbox.specs.BoxTests.{tested_box, byte_table_tested}
use Rattle.cipher_tables.proofs.boxes.table.Goals as goal

pub returns-then-i-eq0 : goal.returns-then-i-eq0
unfolding values tested_box all_byte_tables
returns-then-i-eq0 c =
    let e : c.args.i ≡ 0 = c.if-i-eq0.true in
    rw e (byte_table_tested 0)

pub returns-else-i-eq0 : goal.returns-else-i-eq0
unfolding values tested_box all_byte_tables
returns-else-i-eq0 c =
    let e : c.args.i ≡ 1 = omega arith in
    rw e (byte_table_tested 1)
