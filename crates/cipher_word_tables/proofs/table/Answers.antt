-- `cipher_word_tables::table` meets its contract: the rule is computed at each byte, in one
-- declaration for each table.
use Rattle.std.specs.Prelude.{◌≡◌}
use Rattle.std.proofs.Common.{rules}
use Rattle.cipher_gf256.specs.Values.{values}
use Rattle.cipher_ffunction.specs.Tables.{all_word_tables}
use Rattle.cipher_word_tables.specs.WordTableTests.{tested_entry, word_table_tested}
use Rattle.cipher_word_tables.proofs.table.Goals as goal

pub returns-in-0 : goal.returns-in-0
unfolding values tested_entry all_word_tables
returns-in-0 c = let e : c.args.t ≡ 0 = c.in-0.is in rw e (word_table_tested 0)

pub returns-in-1 : goal.returns-in-1
unfolding values tested_entry all_word_tables
returns-in-1 c = let e : c.args.t ≡ 1 = c.in-1.is in rw e (word_table_tested 1)

pub returns-in-2 : goal.returns-in-2
unfolding values tested_entry all_word_tables
returns-in-2 c = let e : c.args.t ≡ 2 = c.in-2.is in rw e (word_table_tested 2)

pub returns-in-3 : goal.returns-in-3
unfolding values tested_entry all_word_tables
returns-in-3 c = let e : c.args.t ≡ 3 = c.in-3.is in rw e (word_table_tested 3)

pub returns-in-4 : goal.returns-in-4
unfolding values tested_entry all_word_tables
returns-in-4 c = let e : c.args.t ≡ 4 = c.in-4.is in rw e (word_table_tested 4)

pub returns-in-5 : goal.returns-in-5
unfolding values tested_entry all_word_tables
returns-in-5 c = let e : c.args.t ≡ 5 = c.in-5.is in rw e (word_table_tested 5)

pub returns-in-6 : goal.returns-in-6
unfolding values tested_entry all_word_tables
returns-in-6 c = let e : c.args.t ≡ 6 = c.in-6.is in rw e (word_table_tested 6)

pub returns-in_default : goal.returns-in_default
unfolding values tested_entry all_word_tables
returns-in_default c = let e : c.args.t ≡ 7 = search rules in rw e (word_table_tested 7)
