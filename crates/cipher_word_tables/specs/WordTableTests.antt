-- The test of a word table, over matrix column and box: every entry is its column times the
-- substituted byte. One declaration computes it for one table.
use Rattle.std.specs.Prelude.{ℕ, ◌+◌, ◌/◌, ◌%◌, ◌<◌, ◌≡◌}
use Rattle.std.proofs.Common.{ap}
use Rattle.clefia_spec.specs.Words.{from_digits}
use Rattle.clefia_spec.specs.Field.{double, add_product, product}
use Rattle.clefia_spec.specs.FFunction.{m0, m1, matrix_entry}
use Rattle.cipher_gf256.specs.Values.{values, values_ext}
use Rattle.cipher_sbox.specs.BoxTests.{tested_box, tested_box_is}
use Rattle.cipher_ffunction.specs.Tables.{matrix, column_times, column, word_table}

-- Entry x of table t. Unfolding this unfolds all that it is computed with.
unfoldable pub tested_entry : ℕ → ℕ → ℕ
unfolding tested_box matrix column_times m0 m1 matrix_entry from_digits double add_product product
tested_entry t x = column_times (matrix (t / 4)) (t % 4) (tested_box ((t / 4 + t % 4) % 2) x)

pub tested_entry_is : (t x : ℕ) → x < 256 → tested_entry t x ≡ column (t / 4) (t % 4) x
unfolding tested_entry column
tested_entry_is t x h = ap (column_times (matrix (t / 4)) (t % 4)) (tested_box_is ((t / 4 + t % 4) % 2) x h)

pub word_table_tested : (t : ℕ) → values (tested_entry t) 0 256 ≡ word_table t
unfolding word_table
word_table_tested t = values_ext (tested_entry t) (column (t / 4) (t % 4)) 256 (tested_entry_is t)
