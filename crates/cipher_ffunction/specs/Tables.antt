-- The tables of F0 and F1 by the rules, and F0 and F1 by number.
use Rattle.std.specs.Prelude.{ℕ, zero, suc, ◌+◌, ◌-◌, ◌/◌, ◌%◌, ◌<◌, ◌≡◌, refl, List, [], ◌∷◌, length}
use Rattle.std.proofs.Common.{arith, lit<}
use Rattle.clefia_spec.specs.Words.{◌⊕◌, from_digits, to_digits}
use Rattle.clefia_spec.specs.Field.{product}
use Rattle.clefia_spec.specs.FFunction.{m0, m1, matrix_entry, matrix_times, substitute, f0, f1}
use Rattle.cipher_gf256.specs.Values.{values}
use Rattle.cipher_sbox.specs.Boxes.{box}
unfoldable pub use Rattle.cipher_sbox.specs.Boxes.{all_byte_tables}

-- M0 is number 0, M1 number 1.
unfoldable pub matrix : ℕ → List ℕ
matrix zero = m0
matrix (suc f) = m1

-- F0 (f is 0) or F1 (f is 1) after the round key is added: the boxes alternately, beginning with
-- number f, and the matrix.
unfoldable pub mix : ℕ → ℕ → ℕ
mix f z = matrix_times (matrix f) (substitute (box f) (box (1 - f)) (to_digits 256 4 z))

pub mix_f0 : (k x : ℕ) → mix 0 (k ⊕ x) ≡ f0 k x
unfolding mix matrix box f0
mix_f0 k x = refl

pub mix_f1 : (k x : ℕ) → mix 1 (k ⊕ x) ≡ f1 k x
unfolding mix matrix box f1
mix_f1 k x = refl

-- Column j of a matrix times a byte, as a word.
unfoldable pub column_times : List ℕ → ℕ → ℕ → ℕ
column_times m j y =
    from_digits 256 (product y (matrix_entry m 0 j) ∷ product y (matrix_entry m 1 j) ∷ product y (matrix_entry m 2 j)
    ∷ product y (matrix_entry m 3 j) ∷ [])

-- What byte j of the input adds to the result: its column times the byte substituted by the box
-- that F0 or F1 has there.
unfoldable pub column : ℕ → ℕ → ℕ → ℕ
column f j x = column_times (matrix f) j (box ((f + j) % 2) x)

-- What a table of 256 words holds: four for the columns of M0, then four for those of M1.
unfoldable pub word_table : ℕ → List ℕ
word_table t = values (column (t / 4) (t % 4)) 0 256

unfoldable pub all_word_tables : List (List ℕ)
all_word_tables = values word_table 0 8

-- Tables that are all of a kind, or none of it. (The code has the kind in a type, and nothing is
-- passed: these theorems are for who passes tables as lists.)
pub record ValidTables (ws bs : List (List ℕ)) : Type 0 where
  pub word_tables : length ws ≡ 8 → ws ≡ all_word_tables
  pub byte_tables : length bs ≡ 2 → bs ≡ all_byte_tables

-- The word tables alone, the byte tables alone, or none.
not_empty : (n : ℕ) {A : Type 0} → 0 < n → 0 ≡ n → A
not_empty n h e = let z : ⊥ = omega (arith, h, e) in absurd z

pub valid_word_tables : {ws : List (List ℕ)} → ws ≡ all_word_tables → ValidTables ws []
valid_word_tables h = record { word_tables = λ _. h; byte_tables = not_empty 2 (lit< tt) }

pub valid_byte_tables : {bs : List (List ℕ)} → bs ≡ all_byte_tables → ValidTables [] bs
valid_byte_tables h = record { word_tables = not_empty 8 (lit< tt); byte_tables = λ _. h }

pub valid_no_tables : ValidTables [] []
valid_no_tables = record { word_tables = not_empty 8 (lit< tt); byte_tables = not_empty 2 (lit< tt) }
