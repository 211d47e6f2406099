-- The constants that the key schedule adds to the key. They come from a 16-bit number T that is
-- divided by z repeatedly.
use Rattle.std.specs.Prelude.{ℕ, zero, suc, ◌+◌, ◌*◌, ◌/◌, ◌%◌, ◌^◌, List, [], ◌∷◌}
use Rattle.clefia_spec.specs.Words.{◌⊕◌, complement, rotate, by_key_length}

-- T divided by z in GF(2^16) modulo z^16 + z^15 + z^13 + z^11 + z^5 + z^4 + 1: an odd T is made
-- even by adding the polynomial, and then halved.
unfoldable pub divide_by_z : ℕ → ℕ
divide_by_z t = (t % 2 * 0x1a831 ⊕ t) / 2

-- The two constants that one T gives: each is two 16-bit numbers side by side.
unfoldable pub even_constant : ℕ → ℕ
even_constant t = (t ⊕ 0xb7e1) * 2 ^ 16 + rotate 16 1 (complement 16 t)

unfoldable pub odd_constant : ℕ → ℕ
odd_constant t = (complement 16 t ⊕ 0x243f) * 2 ^ 16 + rotate 16 8 t

-- The constants of n values of T, from t on.
unfoldable pub constants_from : ℕ → ℕ → List ℕ
constants_from zero t = []
constants_from (suc n) t = even_constant t ∷ odd_constant t ∷ constants_from n (divide_by_z t)

-- The first T, for each key length.
unfoldable pub first_t : ℕ → ℕ
first_t n = by_key_length n 0x428a 0x7137 0xb5c0

-- 60, 84 or 92 constants, by the key length in bytes.
unfoldable pub constants : ℕ → List ℕ
constants n = constants_from (by_key_length n 30 42 46) (first_t n)
