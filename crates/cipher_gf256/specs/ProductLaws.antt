-- Laws of the product in GF(2^8).
use Rattle.std.specs.Prelude.{ℕ, zero, suc, ◌-◌, ◌*◌, ◌/◌, ◌%◌, ◌≤◌, ◌<◌, ◌≡◌}
use Rattle.std.proofs.Common.{mul-le-mul_right, one-mul, le_of_eq, le_trans, not-suc-le-zero, arith}
use Rattle.clefia_spec.specs.Words.{◌⊕◌}
use Rattle.clefia_spec.specs.Field.{double, double8, add_product, add_product_none}
use Rattle.clefia_laws.specs.FieldLaws.{agree}

-- A byte doubled stays a byte: what is shifted out and the polynomial's highest bit cancel.
abbrev pub double_byte : ℕ → ℕ
double_byte x = x % 128 * 2 ⊕ x / 128 * 0x1d

pub double_byte_lem : (x : ℕ) → x < 256 → double_byte x ≡ double8 x
unfolding double
double_byte_lem = agree double_byte double8 256 tt

-- A number, or 0, by the last bit of another.
pub bit_times_le : (q p : ℕ) → q % 2 * p ≤ p
bit_times_le q p = let h : q % 2 ≤ 1 = omega arith in le_trans (mul-le-mul_right p h) (le_of_eq (one-mul p))

-- One bit of the multiplier taken off.
pub add_product_step : (k r p q : ℕ) → 0 < k
    → add_product k r p q ≡ add_product (k - 1) (q % 2 * p ⊕ r) (double8 p) (q / 2)
unfolding add_product
add_product_step zero r p q h = absurd (not-suc-le-zero h)
add_product_step (suc k) r p q h = let e : suc k - 1 ≡ k = omega arith in rw e

-- The turn after which no set bit is left gives the whole product.
pub add_product_last : (k r p q : ℕ) → 0 < k → q / 2 ≡ 0 → add_product k r p q ≡ q % 2 * p ⊕ r
add_product_last k r p q h e = rw (add_product_step k r p q h, e) (add_product_none (k - 1) (q % 2 * p ⊕ r) (double8 p))
