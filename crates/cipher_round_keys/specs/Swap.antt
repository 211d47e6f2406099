-- DoubleSwap, whose definition orders 128 bits, as four sums of parts of words.
use Rattle.std.specs.Prelude.{ℕ, zero, suc, ◌+◌, ◌*◌, ◌/◌, ◌%◌, ◌^◌, ◌≡◌, List, [], ◌∷◌, ◌++◌, length}
use Rattle.std.proofs.Common.{sym, ◌∙◌, ap, ap₂, zero-add, suc-add, zero-mul, add-mul, mul_assoc, add_assoc, add_comm, lit<, pow-add, length-append}
use Rattle.std.proofs.Math.Nat.{div-div-eq-div-mul}
use Rattle.clefia_spec.specs.Words.{from_digits, to_digits, digits_of, numbers_of}
use Rattle.clefia_laws.specs.DigitLaws.{length_to_digits, from_to}
use Rattle.clefia_spec.specs.KeySchedule.{bit_range, double_swap_bits, double_swap}

-- The digits of a number: the first j of them, and the last k.
pub split_digits : (b j k x : ℕ) → to_digits b (j + k) x ≡ to_digits b j (x / b ^ k) ++ to_digits b k x
unfolding to_digits
split_digits b zero k x = ap (λ (n : ℕ). to_digits b n x) (zero-add k)
split_digits b (suc j) k x =
    ap (λ (n : ℕ). to_digits b n x) (suc-add j k)
    ∙ ap₂ (λ (n : ℕ) (ds : List ℕ). n % b ∷ ds)
    (ap (λ (n : ℕ). x / n) (ap (λ (n : ℕ). b ^ n) (add_comm j k) ∙ pow-add b k j)
    ∙ sym (div-div-eq-div-mul x (b ^ k) (b ^ j)))
    (split_digits b j k x)

-- The number of two lists of digits, one after the other.
pub append_digits : (b : ℕ) (xs ys : List ℕ)
    → from_digits b (xs ++ ys) ≡ from_digits b xs * b ^ length ys + from_digits b ys
unfolding from_digits
append_digits b [] ys = sym (ap (λ (n : ℕ). n + from_digits b ys) (zero-mul (b ^ length ys))
    ∙ zero-add (from_digits b ys))
append_digits b (x ∷ xs) ys =
    ap₂ (λ (n m : ℕ). x * n + m) (ap (λ (n : ℕ). b ^ n) (length-append xs ys) ∙ pow-add b (length xs) (length ys))
    (append_digits b xs ys)
    ∙ sym (add_assoc (x * (b ^ length xs * b ^ length ys)) (from_digits b xs * b ^ length ys) (from_digits b ys))
    ∙ ap (λ (n : ℕ). n + from_digits b ys)
    (ap (λ (n : ℕ). n + from_digits b xs * b ^ length ys) (sym (mul_assoc x (b ^ length xs) (b ^ length ys)))
    ∙ sym (add-mul (x * b ^ length xs) (from_digits b xs) (b ^ length ys)))

-- The last j bits of x and the last k bits of y, joined.
joined_bits : (j k x y : ℕ) → from_digits 2 (to_digits 2 j x ++ to_digits 2 k y) ≡ x % 2 ^ j * 2 ^ k + y % 2 ^ k
joined_bits j k x y =
    append_digits 2 (to_digits 2 j x) (to_digits 2 k y)
    ∙ ap₂ ◌+◌ (ap₂ (λ (n m : ℕ). n * 2 ^ m) (from_to (lit< tt) j x) (length_to_digits 2 k y)) (from_to (lit< tt) k y)

-- Four lists of bits in DoubleSwap's order, as words.
abbrev ordered : List ℕ → List ℕ → List ℕ → List ℕ → List ℕ
ordered a b c d = numbers_of 2 32 4 (double_swap_bits (a ++ (b ++ (c ++ (d ++ [])))))

swap_parts : (a b c d : ℕ) → double_swap (a ∷ b ∷ c ∷ d ∷ []) ≡
    from_digits 2 (to_digits 2 25 a ++ to_digits 2 7 (b / 2 ^ 25))
    ∷ from_digits 2 (to_digits 2 25 b ++ to_digits 2 7 d)
    ∷ from_digits 2 (to_digits 2 7 (a / 2 ^ 25) ++ to_digits 2 25 (c / 2 ^ 7))
    ∷ from_digits 2 (to_digits 2 7 c ++ to_digits 2 25 (d / 2 ^ 7))
    ∷ []
unfolding double_swap double_swap_bits bit_range digits_of numbers_of to_digits
swap_parts a b c d =
    ap₂ (λ (x y : List ℕ). ordered x y (to_digits 2 32 c) (to_digits 2 32 d)) (split_digits 2 7 25 a)
    (split_digits 2 7 25 b)
    ∙ ap₂ (ordered (to_digits 2 7 (a / 2 ^ 25) ++ to_digits 2 25 a) (to_digits 2 7 (b / 2 ^ 25) ++ to_digits 2 25 b))
    (split_digits 2 25 7 c) (split_digits 2 25 7 d)

pub swapped : (a b c d : ℕ) → double_swap (a ∷ b ∷ c ∷ d ∷ []) ≡
    (a % 2 ^ 25 * 2 ^ 7 + b / 2 ^ 25 % 2 ^ 7)
    ∷ (b % 2 ^ 25 * 2 ^ 7 + d % 2 ^ 7)
    ∷ (a / 2 ^ 25 % 2 ^ 7 * 2 ^ 25 + c / 2 ^ 7 % 2 ^ 25)
    ∷ (c % 2 ^ 7 * 2 ^ 25 + d / 2 ^ 7 % 2 ^ 25)
    ∷ []
swapped a b c d = swap_parts a b c d ∙ rw (
  joined_bits 25 7 a (b / 2 ^ 25),
  joined_bits 25 7 b d,
  joined_bits 7 25 (a / 2 ^ 25) (c / 2 ^ 7),
  joined_bits 7 25 c (d / 2 ^ 7),
)
