-- The outputs of the substitutions are bytes and those of the F functions are words, whatever comes
-- in.
use Rattle.std.specs.Prelude.{ℕ, ◌-◌, ◌/◌, ◌%◌, ◌^◌, ◌<◌, List, [], ◌∷◌, map, T, ltb, Bool, true, ◌&&◌, get_or}
use Rattle.std.proofs.Common.{mod-lt, ltb→lt, lit<}
use Rattle.std.proofs.Math.Arith.{digits_lt}
use Rattle.std.proofs.lemmas.Nat.{xor_lt}
use Rattle.std.proofs.Math.Facts.{and_yes}
use Rattle.clefia_spec.specs.Words.{◌⊕◌, from_digits, Below, none, more}
use Rattle.clefia_laws.specs.DigitLaws.{below_get_d, from_digits_lt}
use Rattle.clefia_spec.specs.Field.{double4, product, inverse}
use Rattle.clefia_laws.specs.FieldLaws.{product_lt}
use Rattle.clefia_spec.specs.Sbox.{ss0, ss1, ss2, ss3, s0, bit_of, sum_of_bits, affine, f_rows, g_rows, s1}
use Rattle.clefia_spec.specs.FFunction.{matrix_entry, row_times, matrix_times, substitute, f0, f1}

-- a list of numbers, tested
unfoldable pub all_less : ℕ → List ℕ → Bool
all_less b [] = true
all_less b (x ∷ xs) = ltb x b && all_less b xs

pub below_tested : (b : ℕ) (xs : List ℕ) → T (all_less b xs) → Below b xs
unfolding all_less
below_tested b [] t = none
below_tested b (x ∷ xs) t = let h = and_yes (ltb x b) (all_less b xs) t in
    more (ltb→lt x b h.0) (below_tested b xs h.1)

ss_lt : (ss : List ℕ) → T (all_less 16 ss) → (i : ℕ) → get_or ss i 0 < 16
ss_lt ss t = below_get_d (lit< tt) (below_tested 16 ss t)

pub s0_lt : (x : ℕ) → s0 x < 256
unfolding s0 ss2 ss3 all_less
s0_lt x = digits_lt (ss_lt ss2 tt (t0 ⊕ double4 t1)) (ss_lt ss3 tt (double4 t0 ⊕ t1))
  where
    t0 : ℕ
    t0 = get_or ss0 (x / 16) 0

    t1 : ℕ
    t1 = get_or ss1 (x % 16) 0

sum_of_bits_lt : (x : ℕ) (row : List ℕ) → sum_of_bits x row < 2 ^ 1
unfolding sum_of_bits bit_of
sum_of_bits_lt x [] = lit< tt
sum_of_bits_lt x (i ∷ row) = xor_lt 1 (bit_of x i) (sum_of_bits x row) (mod-lt (x / 2 ^ (7 - i)) (lit< tt))
    (sum_of_bits_lt x row)

below_sums : (x : ℕ) (rows : List (List ℕ)) → Below 2 (map (sum_of_bits x) rows)
below_sums x [] = none
below_sums x (row ∷ rows) = more (sum_of_bits_lt x row) (below_sums x rows)

pub s1_lt : (x : ℕ) → s1 x < 256
unfolding s1 affine g_rows
s1_lt x = xor_lt 8 (from_digits 2 (map (sum_of_bits y) g_rows)) 0x69 (from_digits_lt (lit< tt) (below_sums y g_rows))
    (lit< tt)
  where
    y : ℕ
    y = inverse (affine f_rows 0x1e x)

-- ---- a row of the matrix, the matrix, and F

pub below_substitute : (s t : ℕ → ℕ) → ((x : ℕ) → s x < 256) → ((x : ℕ) → t x < 256) → (bs : List ℕ)
    → Below 256 (substitute s t bs)
unfolding substitute
below_substitute s t hs ht [] = none
below_substitute s t hs ht (b ∷ bs) = more (hs b) (below_substitute t s ht hs bs)

pub row_times_lt : (m : List ℕ) (i : ℕ) {y : List ℕ} → Below 256 y → row_times m i y < 256
unfolding row_times
row_times_lt m i {y} r =
    xor_lt 8 _ _ (xor_lt 8 _ _ (xor_lt 8 _ _ (term 0) (term 1)) (term 2)) (term 3)
  where
    term : (j : ℕ) → product (get_or y j 0) (matrix_entry m i j) < 2 ^ 8
    term j = product_lt (get_or y j 0) (matrix_entry m i j) (below_get_d (lit< tt) r j)

pub matrix_times_lt : (m : List ℕ) {y : List ℕ} → Below 256 y → matrix_times m y < 2 ^ 32
unfolding matrix_times
matrix_times_lt m r =
    from_digits_lt (lit< tt) (more (row_times_lt m 0 r)
    (more (row_times_lt m 1 r) (more (row_times_lt m 2 r) (more (row_times_lt m 3 r) none))))

-- (by search, so that these bounds do not depend on the order of the boxes: a wrong order fails in
-- Examples)
pub f0_lt : (k x : ℕ) → f0 k x < 2 ^ 32
unfolding f0
f0_lt k x = search (matrix_times_lt, below_substitute, s0_lt, s1_lt)

pub f1_lt : (k x : ℕ) → f1 k x < 2 ^ 32
unfolding f1
f1_lt k x = search (matrix_times_lt, below_substitute, s0_lt, s1_lt)
