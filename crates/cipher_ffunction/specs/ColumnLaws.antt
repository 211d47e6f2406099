-- A matrix times four bytes is the sum of its columns, each times its byte: what the word tables
-- rest on.
use Rattle.std.specs.Prelude.{ℕ, zero, suc, ◌+◌, ◌*◌, ◌/◌, ◌%◌, ◌<◌, ◌≡◌, List, [], ◌∷◌, length, get_or}
use Rattle.std.proofs.Common.{div-one, le_of_suc-le-suc, not-suc-le-zero, arith, sym, ◌∙◌}
use Rattle.std.proofs.Math.Path.{refl, ap}
use Rattle.std.proofs.lemmas.Nat.{xor_comm}
use Rattle.clefia_spec.specs.Words.{◌⊕◌, to_digits, xors, Below, none, more}
use Rattle.clefia_laws.specs.XorLaws.{xor_assoc}
use Rattle.clefia_laws.specs.DigitLaws.{below_xors, from_digits_xors}
use Rattle.clefia_spec.specs.Field.{product}
use Rattle.clefia_laws.specs.FieldLaws.{product_lt}
use Rattle.clefia_spec.specs.FFunction.{matrix_entry, row_times, matrix_times, substitute}
use Rattle.clefia_laws.specs.FFunctionLaws.{s0_lt, s1_lt}
use Rattle.cipher_gf256.specs.Values.{value, length_values}
use Rattle.cipher_sbox.specs.Boxes.{box}
use Rattle.cipher_ffunction.specs.Tables.{matrix, mix, column_times, column, word_table, all_word_tables}

column_bytes : List ℕ → ℕ → ℕ → List ℕ
column_bytes m j y = product y (matrix_entry m 0 j) ∷ product y (matrix_entry m 1 j) ∷ product y (matrix_entry m 2 j)
    ∷ product y (matrix_entry m 3 j) ∷ []

below_column : (m : List ℕ) (j y : ℕ) → y < 256 → Below 256 (column_bytes m j y)
unfolding column_bytes
below_column m j y h = more (term 0) (more (term 1) (more (term 2) (more (term 3) none)))
  where
    term : (i : ℕ) → product y (matrix_entry m i j) < 256
    term i = product_lt y (matrix_entry m i j) h

module _ (m : List ℕ) (a b c d : ℕ) (ha : a < 256) (hb : b < 256) (hc : c < 256) (hd : d < 256) where
  pub matrix_times_columns : matrix_times m (a ∷ b ∷ c ∷ d ∷ [])
      ≡ column_times m 0 a ⊕ column_times m 1 b ⊕ column_times m 2 c ⊕ column_times m 3 d
  unfolding matrix_times row_times column_times column_bytes xors
  matrix_times_columns =
      from_digits_xors 8 (below_xors 8 (below_xors 8 ra rb) rc) rd refl
      ∙ ap (λ (w : ℕ). w ⊕ column_times m 3 d) (from_digits_xors 8 (below_xors 8 ra rb) rc refl)
      ∙ ap (λ (w : ℕ). w ⊕ column_times m 2 c ⊕ column_times m 3 d) (from_digits_xors 8 ra rb refl)
    where
      ra : Below 256 (column_bytes m 0 a)
      ra = below_column m 0 a ha

      rb : Below 256 (column_bytes m 1 b)
      rb = below_column m 1 b hb

      rc : Below 256 (column_bytes m 2 c)
      rc = below_column m 2 c hc

      rd : Below 256 (column_bytes m 3 d)
      rd = below_column m 3 d hd

box_lt : (i x : ℕ) → box i x < 256
unfolding box
box_lt zero x = s0_lt x
box_lt (suc i) x = s1_lt x

-- F0 and F1 by columns.
pub mix_columns : (f z : ℕ) → f < 2
    → mix f z ≡ column f 0 (z / 16777216 % 256) ⊕ column f 1 (z / 65536 % 256) ⊕ column f 2 (z / 256 % 256) ⊕ column f 3
    (z % 256)
unfolding mix column to_digits substitute
mix_columns zero z h = rw (div-one z) (matrix_times_columns (matrix 0) _ _ _ _ (box_lt 0 _) (box_lt 1 _) (box_lt 0 _)
    (box_lt 1 _))
mix_columns (suc zero) z h = rw (div-one z)
    (matrix_times_columns (matrix 1) _ _ _ _ (box_lt 1 _) (box_lt 0 _) (box_lt 1 _) (box_lt 0 _))
mix_columns (suc (suc f)) z h = absurd (not-suc-le-zero (le_of_suc-le-suc (le_of_suc-le-suc h)))

-- The same sum in another order.
last_first : (a b c d : ℕ) → d ⊕ c ⊕ a ⊕ b ≡ a ⊕ b ⊕ c ⊕ d
last_first a b c d =
    xor_assoc (d ⊕ c) a b ∙ xor_comm (d ⊕ c) (a ⊕ b) ∙ ap (λ (x : ℕ). a ⊕ b ⊕ x) (xor_comm d c)
    ∙ sym (xor_assoc (a ⊕ b) c d)

columns_mix : (f z : ℕ) → f < 2
    → column f 3 (z % 256) ⊕ column f 2 (z / 256 % 256) ⊕ column f 0 (z / 16777216 % 256) ⊕ column f 1 (z / 65536 % 256)
    ≡ mix f z
columns_mix f z h =
    last_first (column f 0 (z / 16777216 % 256)) (column f 1 (z / 65536 % 256)) (column f 2 (z / 256 % 256))
    (column f 3 (z % 256))
    ∙ sym (mix_columns f z h)

-- The same added to a word, one after the other.
pub columns_added : (f z y : ℕ) → f < 2
    → y ⊕ column f 3 (z % 256) ⊕ column f 2 (z / 256 % 256) ⊕ column f 0 (z / 16777216 % 256) ⊕ column f 1
    (z / 65536 % 256) ≡ y ⊕ mix f z
columns_added f z y h =
    added y (column f 3 (z % 256)) (column f 2 (z / 256 % 256)) (column f 0 (z / 16777216 % 256))
    (column f 1 (z / 65536 % 256))
    ∙ ap (λ (x : ℕ). y ⊕ x) (columns_mix f z h)
  where
    added : (y a b c d : ℕ) → y ⊕ a ⊕ b ⊕ c ⊕ d ≡ y ⊕ (a ⊕ b ⊕ c ⊕ d)
    added y a b c d = rw (xor_assoc y a b, xor_assoc y (a ⊕ b) c, xor_assoc y (a ⊕ b ⊕ c) d)

pub length_word_tables : length all_word_tables ≡ 8
unfolding all_word_tables
length_word_tables = length_values word_table 0 8

-- What is in a word table.
pub word_at : (f j x : ℕ) → f < 2 → j < 4 → x < 256 → get_or (get_or all_word_tables (4 * f + j) []) x 0 ≡ column f j x
unfolding all_word_tables word_table
word_at f j x hf hj hx =
    let t : 4 * f + j < 8 = omega arith in
    let ef : (4 * f + j) / 4 ≡ f = omega arith in
    let ej : (4 * f + j) % 4 ≡ j = omega arith in
    rw (value word_table 8 (4 * f + j) [] t, value (column ((4 * f + j) / 4) ((4 * f + j) % 4)) 256 x 0 hx, ef, ej)
