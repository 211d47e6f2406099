-- Laws of GF(2^8): products stay below 256. A law about each byte is one test that the checker
-- computes for all 256.
use Rattle.std.specs.Prelude.{ℕ, zero, suc, ◌*◌, ◌/◌, ◌%◌, ◌<◌, ◌≤◌, ◌≡◌, refl, Bool, true, ◌&&◌, T, eqb, ltb}
use Rattle.std.proofs.Common.{sym, subst, ⊎_elim, eq-or-lt_of_le, le_of_suc-le-suc, not-suc-le-zero, mod-lt, zero-lt-suc, mul-le-mul_right, lt_of_le_of_lt, one-mul, arith, eqb→eq, ltb→lt, lit<}
use Rattle.std.proofs.lemmas.Nat.{xor_lt}
use Rattle.std.proofs.Math.Facts.{and_yes}
use Rattle.clefia_spec.specs.Words.{◌⊕◌}
use Rattle.clefia_spec.specs.Field.{double, double8, add_product, product, squares, inverse}

-- ---- a test passed by every number below n

abbrev pub all_below : (ℕ → Bool) → ℕ → Bool
all_below p zero = true
all_below p (suc n) = p n && all_below p n

pub tested : (p : ℕ → Bool) (n : ℕ) → T (all_below p n) → (x : ℕ) → x < n → T (p x)
tested p zero t x h = absurd (not-suc-le-zero h)
tested p (suc n) t x h =
    ⊎_elim (λ (e : x ≡ n). subst (λ (m : ℕ). T (p m)) (sym e) (and_yes (p n) (all_below p n) t).0)
    (λ (l : x < n). tested p n (and_yes (p n) (all_below p n) t).1 x l)
    (eq-or-lt_of_le (le_of_suc-le-suc h))

-- two functions that agree in the test agree at each number below n
pub agree : (f g : ℕ → ℕ) (n : ℕ) → T (all_below (λ x. eqb (f x) (g x)) n) → (x : ℕ) → x < n → f x ≡ g x
agree f g n t x h = eqb→eq (f x) (g x) (tested (λ x. eqb (f x) (g x)) n t x h)

-- ---- bounds

doubled : T (all_below (λ x. ltb (double8 x) 256) 256)
unfolding double
doubled = tt

pub double_lt : (x : ℕ) → x < 256 → double8 x < 256
double_lt x h = ltb→lt (double8 x) 256 (tested (λ x. ltb (double8 x) 256) 256 doubled x h)

add_product_lt : (k r x y : ℕ) → r < 256 → x < 256 → add_product k r x y < 256
unfolding add_product
add_product_lt zero r x y hr hx = hr
add_product_lt (suc k) r x y hr hx =
    add_product_lt k (y % 2 * x ⊕ r) (double8 x) (y / 2) (xor_lt 8 (y % 2 * x) r term hr) (double_lt x hx)
  where
    once : y % 2 * x ≤ 1 * x
    once = mul-le-mul_right x (le_of_suc-le-suc (mod-lt y (zero-lt-suc 1)))

    term : y % 2 * x < 256
    term = lt_of_le_of_lt once (omega (arith, one-mul x))

pub product_lt : (x y : ℕ) → x < 256 → product x y < 256
unfolding product
product_lt x y h = add_product_lt 8 0 x y (lit< tt) h

-- The inverse of 0, as the rule of S1 has it. (That x times the inverse is 1 for every other byte
-- is computed in the crate test_long_cases.)
pub inverse_zero : inverse 0 ≡ 0
unfolding double add_product product squares inverse
inverse_zero = refl
