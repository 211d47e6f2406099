-- What each check answers by itself: of a key, and of an expanded key given as bytes.
use Rattle.std.specs.Prelude.{ℕ, ◌/◌, List, [], ◌∷◌, length, Result}
use Rattle.call_answer.specs.Answer.{answer_of}
use Rattle.planbook_spec.specs.Outcome.{accepted, judged}
use Rattle.planbook_spec.specs.Checks.{key_check, words_check, expanded_count}

-- Check 1; the count is that of the expanded key's words.
abbrev pub key_answer : List ℕ → Result ℕ ℕ
key_answer key = answer_of (judged (key_check (length key) ∷ []) (accepted (expanded_count (length key)) []))

-- Check 14; the count is that of the words.
abbrev pub words_answer : List ℕ → Result ℕ ℕ
words_answer words = answer_of (judged (words_check (length words) ∷ []) (accepted (length words / 4) []))
