-- What the call that expands a key cites: how many words a permitted key has, and the words of a
-- key written.
use Rattle.std.specs.Prelude.{ℕ, ◌*◌, ◌≤◌, List, [], ◌∷◌, ◌≡◌, length, Result, Ok}
use Rattle.std.proofs.Common.{lit≤}
use Rattle.clefia_spec.specs.Words.{bytes_of, by_key_length, KeyLength, sixteen, twenty_four, thirty_two}
use Rattle.clefia_spec.specs.KeySchedule.{expand_key}
use Rattle.call_answer.specs.Answer.{Answered}
use Rattle.call_answer.specs.Judging.{GroupPassed, group_passed}
use Rattle.planbook_spec.specs.OutcomeLaws.{AllPass}
use Rattle.call_checks.specs.CheckAnswers.{key_answer}
use Rattle.planbook_spec.specs.Outcome.{Outcome, accepted, judged}
use Rattle.planbook_spec.specs.Checks.{key_check, output_check, expanded_count}
use Rattle.planbook_laws.specs.CheckLaws.{key_permitted}

pub at_most_56 : {n m : ℕ} → KeyLength n → m ≡ by_key_length n 40 48 56 → m ≤ 56
at_most_56 sixteen e = rw e (lit≤ tt)
at_most_56 twenty_four e = rw e (lit≤ tt)
at_most_56 thirty_two e = rw e (lit≤ tt)

-- What is known of a key that passed check 1, with the count n that was answered.
pub record KeyPassed (key : List ℕ) (n : ℕ) : Type 0 where
  pub checks : AllPass (key_check (length key) ∷ [])
  pub long : KeyLength (length key)
  pub count : n ≡ by_key_length (length key) 40 48 56
  pub most : n ≤ 56

pub key_passed : (key : List ℕ) {n : ℕ} → Ok n ≡ key_answer key → KeyPassed key n
unfolding expanded_count
key_passed key {n} e =
    let w : GroupPassed (key_check (length key) ∷ []) (expanded_count (length key)) n =
    group_passed (key_check (length key) ∷ []) _ e in
    let long : KeyLength (length key) = key_permitted w.checks in
    record { checks = w.checks; long = long; count = w.same; most = at_most_56 long w.same }

-- What is left of the call once checks 1 and 2 are passed.
unfoldable pub expanded_call : List ℕ → List ℕ → Outcome
expanded_call key out = judged (output_check (4 * expanded_count (length key)) out ∷ [])
    (accepted (expanded_count (length key)) (bytes_of (expand_key key)))

-- The words w of a key, written as what they are.
pub answered_expanded : (key : List ℕ) {w : List ℕ} (out : List ℕ) {exit : List ℕ} {r : Result ℕ ℕ} → w ≡ expand_key key
    → length w ≡ by_key_length (length key) 40 48 56
    → Answered (judged (output_check (4 * length w) out ∷ []) (accepted (length w) (bytes_of w))) out r exit
    → Answered (expanded_call key out) out r exit
unfolding expanded_call expanded_count
answered_expanded key out e l g = rw (← e, ← l) g
