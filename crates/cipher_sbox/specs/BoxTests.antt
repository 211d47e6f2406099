-- The test of a table: its box in few enough steps to be computed at every byte within the
-- checker's limit.
use Rattle.std.specs.Prelude.{ℕ, zero, suc, ◌<◌, ◌≡◌, refl}
use Rattle.clefia_spec.specs.Field.{double, add_product, product}
use Rattle.clefia_spec.specs.Sbox.{ss0, ss1, ss2, ss3, s0}
use Rattle.cipher_gf256.specs.Values.{values, values_ext}
use Rattle.cipher_sbox.specs.Boxes.{box, byte_table}
use Rattle.cipher_sbox.specs.Rules.{add_columns, f_by_columns, g_by_columns, power14, inverse_by_subfield, s1_by_columns}
use Rattle.cipher_sbox.specs.Rules.{s1_columns}

-- S0 by its rule, S1 by columns. Unfolding this unfolds all that it is computed with.
unfoldable pub tested_box : ℕ → ℕ → ℕ
unfolding ss0 ss1 ss2 ss3 s0 double add_product product add_columns f_by_columns g_by_columns power14
    inverse_by_subfield s1_by_columns
tested_box zero = s0
tested_box (suc i) = s1_by_columns

pub tested_box_is : (i x : ℕ) → x < 256 → tested_box i x ≡ box i x
unfolding tested_box box
tested_box_is zero x h = refl
tested_box_is (suc i) x h = s1_columns x h

pub byte_table_tested : (i : ℕ) → values (tested_box i) 0 256 ≡ byte_table i
unfolding byte_table
byte_table_tested i = values_ext (tested_box i) (box i) 256 (tested_box_is i)
