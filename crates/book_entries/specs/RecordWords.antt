-- The rule of a record, on the four words of its block.
use Rattle.std.specs.Prelude.{ℕ, ◌+◌, ◌*◌, ◌/◌, ◌%◌, ◌^◌, ◌<◌, ◌≡◌, ◌&&◌, List, [], ◌∷◌, eqb, leb, length, get_or}
use Rattle.std.proofs.Common.{sym, mod-eq_of_lt, arith, lit<}
use Rattle.clefia_spec.specs.Words.{from_digits, to_digits, digits_of, bytes_of}
use Rattle.clefia_laws.specs.DigitLaws.{from_to}
use Rattle.clefia_laws.specs.BlockLaws.{word_back}
use Rattle.planbook_spec.specs.Book.{number, trial, replicates, record_row, record_column, plot_holds, record_holds}

byte_high : (x : ℕ) → x < 2 ^ 32 → x / 256 ^ 3 % 256 ≡ x / 16777216
byte_high x h = mod-eq_of_lt (omega arith)

plot_row : (a b c d : ℕ) → record_row (bytes_of (a ∷ b ∷ c ∷ d ∷ [])) ≡ c / 256 % 65536
unfolding number digits_of to_digits from_digits
plot_row a b c d = omega arith

column_words : (a b c d : ℕ) → d < 2 ^ 32 → record_column (bytes_of (a ∷ b ∷ c ∷ d ∷ [])) ≡ c % 256 * 256 + d / 16777216
unfolding number digits_of to_digits from_digits
column_words a b c d h = omega arith

pub record_words : (e : List ℕ) (a b c d : ℕ) → a < 2 ^ 32 → b < 2 ^ 32 → c < 2 ^ 32 → d < 2 ^ 32
    → record_holds e (bytes_of (a ∷ b ∷ c ∷ d ∷ []))
    ≡ (eqb a (trial e) && leb 1 b && leb 1 (c / 16777216) && leb (c / 16777216) (replicates e) && plot_holds
    (c / 256 % 65536) (c % 256 * 256 + d / 16777216) && eqb (d % 16777216) 0)
unfolding record_holds number digits_of to_digits
record_words e a b c d ha hb hc hd = rw (
  word_back a ha,
  word_back b hb,
  byte_high c hc,
  plot_row a b c d,
  column_words a b c d hd,
  from_to (lit< tt) 3 d,
)

pub record_state : (e r : List ℕ) {t n : ℕ} → length r ≡ 4 → ((i : ℕ) → get_or r i 0 < 2 ^ 32) → t ≡ trial e
    → n ≡ replicates e
    → (eqb (get_or r 0 0) t && leb 1 (get_or r 1 0) && leb 1 (get_or r 2 0 / 16777216) && leb
    (get_or r 2 0 / 16777216) n && plot_holds (get_or r 2 0 / 256 % 65536)
    (get_or r 2 0 % 256 * 256 + get_or r 3 0 / 16777216) && eqb (get_or r 3 0 % 16777216) 0)
    ≡ record_holds e (bytes_of r)
record_state e (a ∷ b ∷ c ∷ d ∷ []) l fits h k =
    rw (h, k) (sym (record_words e a b c d (fits 0) (fits 1) (fits 2) (fits 3)))
record_state e [] l fits h k = let z : ⊥ = omega arith in absurd z
record_state e (a ∷ []) l fits h k = let z : ⊥ = omega arith in absurd z
record_state e (a ∷ b ∷ []) l fits h k = let z : ⊥ = omega arith in absurd z
record_state e (a ∷ b ∷ c ∷ []) l fits h k = let z : ⊥ = omega arith in absurd z
record_state e (a ∷ b ∷ c ∷ d ∷ x ∷ r) l fits h k = let z : ⊥ = omega arith in absurd z
