-- The expanded key of a key in bytes, for each permitted length, by the words that the code reads
-- from it.
use Rattle.std.specs.Prelude.{ℕ, ◌≤◌, ◌≡◌, refl, List, [], ◌∷◌, length, drop}
use Rattle.std.proofs.Common.{arith}
use Rattle.clefia_spec.specs.Words.{complement, words_of, KeyLength, sixteen, twenty_four, thirty_two}
use Rattle.clefia_spec.specs.Constants.{constants}
use Rattle.clefia_spec.specs.KeySchedule.{expand_short, expand_long, extend_key, expand_key_words, expand_key}
use Rattle.cipher_bytes.specs.ListLaws.{word_at, get_d_words, four_at_words}

-- What is left where a permitted length is neither 16 nor 24.
pub else_32 : {n : ℕ} → KeyLength n → (n ≡ 16 → ⊥) → (n ≡ 24 → ⊥) → n ≡ 32
else_32 sixteen a b = absurd (a refl)
else_32 twenty_four a b = absurd (b refl)
else_32 thirty_two a b = refl

pub at_least_16 : {n : ℕ} → KeyLength n → 16 ≤ n
at_least_16 sixteen = omega arith
at_least_16 twenty_four = omega arith
at_least_16 thirty_two = omega arith

pub extended : (key : List ℕ) → extend_key (words_of 6 key)
    ≡ word_at key 16 ∷ word_at key 20 ∷ complement 32 (word_at key 0)
    ∷ complement 32 (word_at key 4) ∷ []
unfolding extend_key
extended key =
    rw (
      get_d_words 6 key 4 (omega arith),
      get_d_words 6 key 5 (omega arith),
      get_d_words 6 key 0 (omega arith),
      get_d_words 6 key 1 (omega arith),
    )

module _ (key : List ℕ) where
  pub expand_16 : length key ≡ 16 → expand_short (words_of 4 key) ≡ expand_key key
  unfolding expand_key expand_key_words
  expand_16 h = rw (h, four_at_words 4 key 0 (omega arith))

  pub expand_24 : length key ≡ 24 → expand_long (constants 24) 11 (words_of 4 key) (extend_key (words_of 6 key))
      ≡ expand_key key
  unfolding expand_key expand_key_words
  expand_24 h = rw (h, four_at_words 6 key 0 (omega arith))

  pub expand_32 : length key ≡ 32 → expand_long (constants 32) 13 (words_of 4 key) (words_of 4 (drop 16 key))
      ≡ expand_key key
  unfolding expand_key expand_key_words
  expand_32 h = rw (h, four_at_words 8 key 0 (omega arith), four_at_words 8 key 4 (omega arith))
