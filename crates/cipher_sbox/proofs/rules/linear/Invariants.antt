-- `cipher_sbox::rules::linear` meets its contract. The loop's invariant: the columns that are left,
-- added to the sum, give what all give.
use mathlib.Core.Path.{◌≡◌}
use lib.ListN.{drop}
use Rattle.cipher_sbox.specs.Rules.{add_columns}
use Rattle.cipher_sbox.proofs.rules.linear.Given as goal

abbrev pub invariant-loop-column : goal.invariant-loop-column
invariant-loop-column l = add_columns (drop l.column-index l.column-items) l.sum l.bits ≡ add_columns l.fn.columns 0 l.x
