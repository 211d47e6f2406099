-- The two substitutions of a byte, from their rules.
use Rattle.std.specs.Prelude.{ℕ, ◌+◌, ◌-◌, ◌*◌, ◌/◌, ◌%◌, ◌^◌, List, [], ◌∷◌, map, get_or}
use Rattle.clefia_spec.specs.Words.{◌⊕◌, from_digits}
use Rattle.clefia_spec.specs.Field.{double4, inverse}

-- The four-bit boxes of S0, inputs 0 to f.
unfoldable pub ss0 : List ℕ
ss0 = 0xe ∷ 0x6 ∷ 0xc ∷ 0xa ∷ 0x8 ∷ 0x7 ∷ 0x2 ∷ 0xf ∷ 0xb ∷ 0x1 ∷ 0x4 ∷ 0x0 ∷ 0x5 ∷ 0x9 ∷ 0xd ∷ 0x3 ∷ []

unfoldable pub ss1 : List ℕ
ss1 = 0x6 ∷ 0x4 ∷ 0x0 ∷ 0xd ∷ 0x2 ∷ 0xb ∷ 0xa ∷ 0x3 ∷ 0x9 ∷ 0xc ∷ 0xe ∷ 0xf ∷ 0x8 ∷ 0x7 ∷ 0x5 ∷ 0x1 ∷ []

unfoldable pub ss2 : List ℕ
ss2 = 0xb ∷ 0x8 ∷ 0x5 ∷ 0xe ∷ 0xa ∷ 0x6 ∷ 0x4 ∷ 0xc ∷ 0xf ∷ 0x7 ∷ 0x2 ∷ 0x3 ∷ 0x1 ∷ 0x0 ∷ 0xd ∷ 0x9 ∷ []

unfoldable pub ss3 : List ℕ
ss3 = 0xa ∷ 0x2 ∷ 0x6 ∷ 0xd ∷ 0x3 ∷ 0x4 ∷ 0x5 ∷ 0xe ∷ 0x0 ∷ 0x7 ∷ 0x8 ∷ 0x9 ∷ 0xb ∷ 0xf ∷ 0xc ∷ 0x1 ∷ []

-- S0: each half of the byte through its box, the halves mixed in GF(2^4), each through a second
-- box.
unfoldable pub s0 : ℕ → ℕ
s0 x =
    let t0 : ℕ = get_or ss0 (x / 16) 0 in
    let t1 : ℕ = get_or ss1 (x % 16) 0 in
    get_or ss2 (t0 ⊕ double4 t1) 0 * 16 + get_or ss3 (double4 t0 ⊕ t1) 0

-- Bit i of a byte; bit 0 is the highest.
unfoldable pub bit_of : ℕ → ℕ → ℕ
bit_of x i = x / 2 ^ (7 - i) % 2

-- The sum of the bits of x whose places are in a list.
unfoldable pub sum_of_bits : ℕ → List ℕ → ℕ
sum_of_bits x [] = 0
sum_of_bits x (i ∷ is) = bit_of x i ⊕ sum_of_bits x is

-- A byte each of whose bits is a sum of bits of x, plus a constant.
unfoldable pub affine : List (List ℕ) → ℕ → ℕ → ℕ
affine rows c x = from_digits 2 (map (sum_of_bits x) rows) ⊕ c

-- The bits summed by f and g, the two maps of S1, from bit 0 of the result to bit 7.
unfoldable pub f_rows : List (List ℕ)
f_rows =
    (3 ∷ 4 ∷ [])
    ∷ (1 ∷ 3 ∷ 7 ∷ [])
    ∷ (7 ∷ [])
    ∷ (5 ∷ 6 ∷ [])
    ∷ (1 ∷ 2 ∷ 5 ∷ 7 ∷ [])
    ∷ (1 ∷ 3 ∷ 4 ∷ 5 ∷ [])
    ∷ (1 ∷ 2 ∷ [])
    ∷ (0 ∷ 7 ∷ [])
    ∷ []

unfoldable pub g_rows : List (List ℕ)
g_rows =
    (4 ∷ 6 ∷ [])
    ∷ (1 ∷ 7 ∷ [])
    ∷ (1 ∷ 3 ∷ 4 ∷ [])
    ∷ (2 ∷ [])
    ∷ (2 ∷ 3 ∷ [])
    ∷ (6 ∷ [])
    ∷ (0 ∷ 3 ∷ [])
    ∷ (1 ∷ 5 ∷ [])
    ∷ []

-- S1: f, the inverse in GF(2^8), g.
unfoldable pub s1 : ℕ → ℕ
s1 x = affine g_rows 0x69 (inverse (affine f_rows 0x1e x))
