-- What the calls cite: what is known of words that passed, and a task under words that were read.
use Rattle.std.specs.Prelude.{ℕ, ◌*◌, ◌/◌, ◌≤◌, List, [], ◌∷◌, ◌≡◌, refl, length, Result, Ok}
use Rattle.std.proofs.Common.{arith, lit≤}
use Rattle.clefia_spec.specs.Words.{words_of}
use Rattle.call_answer.specs.Answer.{Answered}
use Rattle.call_answer.specs.Judging.{GroupPassed, group_passed}
use Rattle.planbook_spec.specs.OutcomeLaws.{AllPass}
use Rattle.planbook_spec.specs.Checks.{words_check, words_from_bytes}
use Rattle.planbook_laws.specs.CheckLaws.{WordsLength, forty, forty_eight, fifty_six, words_permitted}
use Rattle.call_checks.specs.CheckAnswers.{words_answer}
use Rattle.call_tasks.specs.declared.Task.{Task}
use Rattle.call_tasks.specs.Tasks.{under}

-- What is known of words that passed check 14, with the count n that was answered.
pub record WordsPassed (words : List ℕ) (n : ℕ) : Type 0 where
  pub checks : AllPass (words_check (length words) ∷ [])
  pub bytes : length words ≡ 4 * n
  pub least : 4 ≤ n
  pub most : n ≤ 56

pub words_passed : (words : List ℕ) {n : ℕ} → Ok n ≡ words_answer words → WordsPassed words n
words_passed words {n} e =
    let w : GroupPassed (words_check (length words) ∷ []) (length words / 4) n =
    group_passed (words_check (length words) ∷ []) _ e in
    let s : (length words ≡ 4 * n) × (4 ≤ n) × (n ≤ 56) = rw w.same (sizes (words_permitted w.checks)) in
    record { checks = w.checks; bytes = s.0; least = s.1; most = s.2 }
  where
    sizes : {l : ℕ} → WordsLength l → (l ≡ 4 * (l / 4)) × (4 ≤ l / 4) × (l / 4 ≤ 56)
    sizes forty = (refl, lit≤ tt, lit≤ tt)
    sizes forty_eight = (refl, lit≤ tt, lit≤ tt)
    sizes fifty_six = (refl, lit≤ tt, lit≤ tt)

-- A task done under words that were read into n places, four bytes to each, is done under the words
-- given.
pub answered_read : (task : Task) (words : List ℕ) (n : ℕ) {w : List ℕ} (src out : List ℕ) {exit : List ℕ}
    {r : Result ℕ ℕ} → length words ≡ 4 * n → w ≡ words_of n words
    → Answered (under task w src out) out r exit
    → Answered (under task (words_from_bytes words) src out) out r exit
unfolding words_from_bytes
answered_read task words n src out l e g = let q : length words / 4 ≡ n = omega (arith, l) in rw (q, ← e) g
