-- Arithmetic in GF(2^4) modulo z^4 + z + 1 (hexadecimal 13) and in GF(2^8) modulo z^8 + z^4 + z^3 +
-- z^2 + 1 (11d).
use Rattle.std.specs.Prelude.{ℕ, zero, suc, ◌+◌, ◌-◌, ◌*◌, ◌/◌, ◌%◌, ◌^◌, ◌≤◌, ◌<◌, ◌≡◌, refl}
use Rattle.std.proofs.Common.{add-sub_of_le, pow-suc, suc-add, zero-add, zero-mul, arith, sym}
use Rattle.clefia_spec.specs.Words.{◌⊕◌}

-- x times z in GF(2^w): doubled, and the polynomial p added where the highest bit was set.
unfoldable pub double : ℕ → ℕ → ℕ → ℕ
double w p x = x / 2 ^ (w - 1) * p ⊕ x * 2

abbrev pub double4 : ℕ → ℕ
double4 = double 4 0x13

abbrev pub double8 : ℕ → ℕ
double8 = double 8 0x11d

-- r plus x times the last k bits of y: for each set bit, lowest first, x doubled as often as the
-- bit's place says.
unfoldable pub add_product : ℕ → ℕ → ℕ → ℕ → ℕ
add_product zero r x y = r
add_product (suc k) r x y = add_product k (y % 2 * x ⊕ r) (double8 x) (y / 2)

-- x times y in GF(2^8).
unfoldable pub product : ℕ → ℕ → ℕ
product x y = add_product 8 0 x y

-- No bit of 0 is set, so turns through its bits add nothing.
pub add_product_none : (k r x : ℕ) → add_product k r x 0 ≡ r
unfolding add_product
add_product_none zero r x = refl
add_product_none (suc k) r x = rw (zero-mul x) (add_product_none k r (double8 x))

-- A number below 2 ^ k has no set bit above its last k, so j more turns add nothing.
add_product_enough : (k j r x y : ℕ) → y < 2 ^ k → add_product (k + j) r x y ≡ add_product k r x y
unfolding add_product
add_product_enough zero j r x y h = let e : y ≡ 0 = omega arith in rw (e, zero-add j) (add_product_none j r x)
add_product_enough (suc k) j r x y h =
    let half : y / 2 < 2 ^ k = omega (arith, pow-suc 2 k) in
    rw (suc-add k j) (add_product_enough k j (y % 2 * x ⊕ r) (double8 x) (y / 2) half)

-- Beginning with the lowest bit, k turns give the whole product for every multiplier below 2 ^ k.
pub product_turns : (k x y : ℕ) → k ≤ 8 → y < 2 ^ k → add_product k 0 x y ≡ product x y
unfolding product
product_turns k x y most h = rw (add-sub_of_le most) at (sym (add_product_enough k (8 - k) 0 x y h))

-- x^2 times x^4 and so on, n factors, each the square of the one before.
unfoldable pub squares : ℕ → ℕ → ℕ
squares zero x = 1
squares (suc n) x = let s : ℕ = product x x in product s (squares n s)

-- The inverse in GF(2^8), and 0 for 0: x^254, which is x^2 times x^4 and so on to x^128. (Crate
-- test_long_cases shows that it is the inverse.)
unfoldable pub inverse : ℕ → ℕ
inverse x = squares 7 x
