-- The two functions of a round: the round key added, four bytes substituted, and a matrix applied.
use Rattle.std.specs.Prelude.{ℕ, List, [], ◌∷◌, get_or}
use Rattle.clefia_spec.specs.Words.{◌⊕◌, from_digits, to_digits}
use Rattle.clefia_spec.specs.Field.{product}
use Rattle.clefia_spec.specs.Sbox.{s0, s1}

-- The first row of each matrix. The entry at row i, column j is entry i ⊕ j of that row.
unfoldable pub m0 : List ℕ
m0 = 0x01 ∷ 0x02 ∷ 0x04 ∷ 0x06 ∷ []

unfoldable pub m1 : List ℕ
m1 = 0x01 ∷ 0x08 ∷ 0x02 ∷ 0x0a ∷ []

unfoldable pub matrix_entry : List ℕ → ℕ → ℕ → ℕ
matrix_entry m i j = get_or m (i ⊕ j) 0

-- Row i of the matrix times four bytes.
unfoldable pub row_times : List ℕ → ℕ → List ℕ → ℕ
row_times m i y =
    product (get_or y 0 0) (matrix_entry m i 0)
    ⊕ product (get_or y 1 0) (matrix_entry m i 1)
    ⊕ product (get_or y 2 0) (matrix_entry m i 2)
    ⊕ product (get_or y 3 0) (matrix_entry m i 3)

-- The matrix times four bytes, as a word.
unfoldable pub matrix_times : List ℕ → List ℕ → ℕ
matrix_times m y = from_digits 256 (row_times m 0 y ∷ row_times m 1 y ∷ row_times m 2 y ∷ row_times m 3 y ∷ [])

-- The bytes of a list through s and t alternately, beginning with s.
unfoldable pub substitute : (ℕ → ℕ) → (ℕ → ℕ) → List ℕ → List ℕ
substitute s t [] = []
substitute s t (b ∷ bs) = s b ∷ substitute t s bs

unfoldable pub f0 : ℕ → ℕ → ℕ
f0 k x = matrix_times m0 (substitute s0 s1 (to_digits 256 4 (k ⊕ x)))

unfoldable pub f1 : ℕ → ℕ → ℕ
f1 k x = matrix_times m1 (substitute s1 s0 (to_digits 256 4 (k ⊕ x)))
