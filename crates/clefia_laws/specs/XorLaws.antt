-- Laws of exclusive or: associative, and what is added twice cancels. (The kit's lib.Bits has
-- commutativity and bounds.)
use Rattle.std.specs.Prelude.{ℕ, zero, suc, ◌+◌, ◌*◌, ◌/◌, ◌%◌, ◌<◌, ◌≡◌, refl}
use Rattle.std.proofs.Common.{sym, ap, ap₂, ◌∙◌, mod-lt, zero-lt-suc, not-suc-le-zero, le_of_suc-le-suc}
use Rattle.std.proofs.Math.Arith.{bin_ind, digits_div, digits_mod}
use Rattle.std.specs.Int.Bits.{differ, xor_step, xor_self, xor_zero_r}
use Rattle.clefia_spec.specs.Words.{◌⊕◌}

differ_lt : (x y : ℕ) → x < 2 → y < 2 → differ x y < 2
differ_lt zero y h k = k
differ_lt (suc zero) zero h k = h
differ_lt (suc zero) (suc zero) h k = zero-lt-suc 1
differ_lt (suc zero) (suc (suc y)) h k = absurd (not-suc-le-zero (le_of_suc-le-suc (le_of_suc-le-suc k)))
differ_lt (suc (suc x)) y h k = absurd (not-suc-le-zero (le_of_suc-le-suc (le_of_suc-le-suc h)))

differ_assoc : (x y z : ℕ) → x < 2 → y < 2 → z < 2 → differ (differ x y) z ≡ differ x (differ y z)
differ_assoc zero y z h k l = refl
differ_assoc (suc zero) zero z h k l = refl
differ_assoc (suc zero) (suc zero) zero h k l = refl
differ_assoc (suc zero) (suc zero) (suc zero) h k l = refl
differ_assoc (suc zero) (suc zero) (suc (suc z)) h k l =
    absurd (not-suc-le-zero (le_of_suc-le-suc (le_of_suc-le-suc l)))
differ_assoc (suc zero) (suc (suc y)) z h k l = absurd (not-suc-le-zero (le_of_suc-le-suc (le_of_suc-le-suc k)))
differ_assoc (suc (suc x)) y z h k l = absurd (not-suc-le-zero (le_of_suc-le-suc (le_of_suc-le-suc h)))

bit : (n : ℕ) → n % 2 < 2
bit n = mod-lt n (zero-lt-suc 1)

bits : (a b : ℕ) → differ (a % 2) (b % 2) < 2
bits a b = differ_lt (a % 2) (b % 2) (bit a) (bit b)

xor_half : (a b : ℕ) → (a ⊕ b) / 2 ≡ a / 2 ⊕ b / 2
xor_half a b = ap (λ (x : ℕ). x / 2) (xor_step a b) ∙ digits_div (a / 2 ⊕ b / 2) (bits a b)

xor_odd : (a b : ℕ) → (a ⊕ b) % 2 ≡ differ (a % 2) (b % 2)
xor_odd a b = ap (λ (x : ℕ). x % 2) (xor_step a b) ∙ digits_mod (a / 2 ⊕ b / 2) (bits a b)

pub xor_assoc : (a b c : ℕ) → a ⊕ b ⊕ c ≡ a ⊕ (b ⊕ c)
xor_assoc =
    bin_ind (λ (a : ℕ). (b c : ℕ) → a ⊕ b ⊕ c ≡ a ⊕ (b ⊕ c)) (λ b c. refl)
    (λ a ih b c.
    xor_step (a ⊕ b) c
    ∙ ap₂ (λ (x y : ℕ). (x ⊕ c / 2) * 2 + differ y (c % 2)) (xor_half a b) (xor_odd a b)
    ∙ ap₂ (λ (x y : ℕ). x * 2 + y) (ih (b / 2) (c / 2)) (differ_assoc (a % 2) (b % 2) (c % 2) (bit a) (bit b) (bit c))
    ∙ sym (ap₂ (λ (x y : ℕ). (a / 2 ⊕ x) * 2 + differ (a % 2) y) (xor_half b c) (xor_odd b c))
    ∙ sym (xor_step a (b ⊕ c)))

-- added before, added after: it cancels
pub xor_cancel_left : (a b : ℕ) → a ⊕ (a ⊕ b) ≡ b
xor_cancel_left a b = sym (xor_assoc a a b) ∙ ap (λ (x : ℕ). x ⊕ b) (xor_self a)

pub xor_cancel_right : (a b : ℕ) → a ⊕ b ⊕ b ≡ a
xor_cancel_right a b = xor_assoc a b b ∙ ap (λ (x : ℕ). a ⊕ x) (xor_self b) ∙ xor_zero_r a
