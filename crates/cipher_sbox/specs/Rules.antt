-- What the functions that work out S0 and S1 compute on the way.
use Rattle.std.specs.Prelude.{ℕ, zero, suc, ◌+◌, ◌*◌, ◌/◌, ◌%◌, max, ◌≤◌, ◌<◌, ◌≡◌, List, [], ◌∷◌, T, ltb, length, get_or, drop}
use Rattle.std.proofs.Common.{zero-le, suc-le-suc, le_trans, ltb→lt, lit<, add-one, drop_of_length-le, drop-cons}
use Rattle.std.proofs.Math.Nat.{le-max_left, le-max_right}
use Rattle.clefia_spec.specs.Words.{◌⊕◌, from_digits}
use Rattle.clefia_spec.specs.Field.{double, add_product, product, squares, inverse}
use Rattle.clefia_laws.specs.FieldLaws.{all_below, tested, agree}
use Rattle.clefia_spec.specs.Sbox.{ss0, ss1, ss2, ss3, bit_of, sum_of_bits, affine, f_rows, g_rows, s1}

unfoldable pub four_bit_boxes : List (List ℕ)
four_bit_boxes = ss0 ∷ ss1 ∷ ss2 ∷ ss3 ∷ []

-- A result of four bits.
pub record FourBits (value result : ℕ) : Type 0 where
  pub right : result ≡ value
  pub small : result < 16

-- r plus the columns that the bits of x pick, lowest bit first: a map of bytes that keeps sums,
-- where column i is the image of 2 ^ i.
unfoldable pub add_columns : List ℕ → ℕ → ℕ → ℕ
add_columns [] r x = r
add_columns (c ∷ cs) r x = add_columns cs (x % 2 * c ⊕ r) (x / 2)

largest : List ℕ → ℕ
largest [] = 0
largest (x ∷ xs) = max x (largest xs)

at_most_largest : (xs : List ℕ) (k : ℕ) → get_or xs k 0 ≤ largest xs
unfolding largest
at_most_largest [] k = zero-le
at_most_largest (x ∷ xs) zero = le-max_left x (largest xs)
at_most_largest (x ∷ xs) (suc k) = le_trans (at_most_largest xs k) (le-max_right x (largest xs))

-- The entries of the four-bit boxes have four bits.
pub four_bits : (i x : ℕ) → get_or (get_or four_bit_boxes i []) x 0 < 16
unfolding four_bit_boxes ss0 ss1 ss2 ss3 largest
four_bits zero x = suc-le-suc (at_most_largest ss0 x)
four_bits (suc zero) x = suc-le-suc (at_most_largest ss1 x)
four_bits (suc (suc zero)) x = suc-le-suc (at_most_largest ss2 x)
four_bits (suc (suc (suc zero))) x = suc-le-suc (at_most_largest ss3 x)
four_bits (suc (suc (suc (suc i)))) x = lit< tt

-- One bit taken off, and its column with it.
pub add_columns_step : (cs : List ℕ) (i r x : ℕ) → i < length cs
    → add_columns (drop i cs) r x ≡ add_columns (drop (i + 1) cs) (x % 2 * get_or cs i 0 ⊕ r) (x / 2)
unfolding add_columns
add_columns_step cs i r x h = rw (add-one, drop-cons cs i 0 h)

pub add_columns_end : (cs : List ℕ) (i r x : ℕ) → length cs ≤ i → add_columns (drop i cs) r x ≡ r
unfolding add_columns
add_columns_end cs i r x h = rw (drop_of_length-le cs h)

-- f and g by columns, and the inverse as x^16 times the 14th power of x^17: x^17 is in the field of
-- sixteen elements, which differ in their low four bits. Each law is computed at every byte.
unfoldable pub f_by_columns : ℕ → ℕ
f_by_columns x = add_columns (0x69 ∷ 0x10 ∷ 0x1c ∷ 0x84 ∷ 0xc4 ∷ 0x0a ∷ 0x4e ∷ 0x01 ∷ []) 0 x ⊕ 0x1e

unfoldable pub g_by_columns : ℕ → ℕ
g_by_columns x = add_columns (0x40 ∷ 0x84 ∷ 0x01 ∷ 0xa0 ∷ 0x2a ∷ 0x18 ∷ 0x61 ∷ 0x02 ∷ []) 0 x ⊕ 0x69

unfoldable pub power14 : List ℕ
power14 =
    0x00 ∷ 0x01 ∷ 0x44 ∷ 0x4f ∷ 0x92 ∷ 0x4e ∷ 0xd7 ∷ 0xd6 ∷ 0x0b ∷ 0xdc ∷ 0xdd ∷ 0x98 ∷ 0x99 ∷ 0x0a ∷ 0x45 ∷ 0x93 ∷ []

unfoldable pub inverse_by_subfield : ℕ → ℕ
inverse_by_subfield x =
    let x16 : ℕ = add_columns (0x01 ∷ 0x4c ∷ 0x9d ∷ 0x46 ∷ 0x5f ∷ 0xfd ∷ 0xd9 ∷ 0x81 ∷ []) 0 x in
    product x16 (get_or power14 (product x x16 % 16) 0)

pub f_columns : (x : ℕ) → x < 256 → f_by_columns x ≡ affine f_rows 0x1e x
unfolding f_by_columns add_columns from_digits bit_of sum_of_bits affine f_rows
f_columns = agree f_by_columns (affine f_rows 0x1e) 256 tt

pub g_columns : (x : ℕ) → x < 256 → g_by_columns x ≡ affine g_rows 0x69 x
unfolding g_by_columns add_columns from_digits bit_of sum_of_bits affine g_rows
g_columns = agree g_by_columns (affine g_rows 0x69) 256 tt

pub inverse_subfield : (x : ℕ) → x < 256 → inverse_by_subfield x ≡ inverse x
unfolding inverse_by_subfield power14 add_columns double add_product product squares inverse
inverse_subfield = agree inverse_by_subfield inverse 256 tt

bytes : (f : ℕ → ℕ) → T (all_below (λ x. ltb (f x) 256) 256) → (x : ℕ) → x < 256 → f x < 256
bytes f t x h = ltb→lt (f x) 256 (tested (λ x. ltb (f x) 256) 256 t x h)

f_lt : (x : ℕ) → x < 256 → f_by_columns x < 256
unfolding f_by_columns add_columns
f_lt = bytes f_by_columns tt

inverse_lt : (x : ℕ) → x < 256 → inverse_by_subfield x < 256
unfolding inverse_by_subfield power14 add_columns double add_product product
inverse_lt = bytes inverse_by_subfield tt

-- S1 in fewer steps. The tests of the tables compute it so.
unfoldable pub s1_by_columns : ℕ → ℕ
s1_by_columns x = g_by_columns (inverse_by_subfield (f_by_columns x))

pub s1_columns : (x : ℕ) → x < 256 → s1_by_columns x ≡ s1 x
unfolding s1_by_columns s1
s1_columns x h =
    let y = f_by_columns x in
    rw (g_columns (inverse_by_subfield y) (inverse_lt y (f_lt x h)), inverse_subfield y (f_lt x h), f_columns x h)
