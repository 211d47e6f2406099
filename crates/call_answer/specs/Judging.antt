-- Laws of answers: checks that are made in groups, one after the other, answer as they do in one
-- list.
use Rattle.std.specs.Prelude.{ℕ, ◌≡◌, refl, true, false, List, [], ◌∷◌, ◌++◌, Result, Ok, Err, IsErrAnd}
use Rattle.std.proofs.Common.{sym, ◌∙◌, arith}
use Rattle.call_answer.specs.declared.Check.{Check as Answer·Check}
use Rattle.call_answer.specs.Answer.{numbered, answer_of, Answered}
use Rattle.planbook_spec.specs.Outcome.{Outcome, refused, accepted, after, Check, check, judged}
use Rattle.planbook_spec.specs.OutcomeLaws.{AllPass, none, more, judged_append, judged_pass}

-- A group that refuses, refuses all that begins with it.
pub stopped : (cs : List Check) (n : ℕ) {c : ℕ} (o : Outcome) → Err c ≡ answer_of (judged cs (accepted n []))
    → judged cs o ≡ refused c
unfolding judged
stopped [] n o e = let z : ◌≡◌ {A = ℕ} 0 1 = cc in absurd (omega arith)
stopped (check d true ∷ cs) n o e = stopped cs n o e
stopped (check d false ∷ cs) n o e = cc

-- What is known of a group that passed: all of it passed, and the count is the one that it gives.
pub record GroupPassed (cs : List Check) (n m : ℕ) : Type 0 where
  pub checks : AllPass cs
  pub same : m ≡ n

pub group_passed : (cs : List Check) (n : ℕ) {m : ℕ} → Ok m ≡ answer_of (judged cs (accepted n []))
    → GroupPassed cs n m
unfolding judged
group_passed [] n e = record { checks = none; same = cc }
group_passed (check d true ∷ cs) n {m} e = let w : GroupPassed cs n m = group_passed cs n e in
    record { checks = more w.checks; same = w.same }
group_passed (check d false ∷ cs) n e = let z : ◌≡◌ {A = ℕ} 0 1 = cc in absurd (omega arith)

-- Two groups.
pub stopped_first : (cs ds : List Check) (n : ℕ) {c : ℕ} (o : Outcome)
    → Err c ≡ answer_of (judged cs (accepted n [])) → judged (cs ++ ds) o ≡ refused c
stopped_first cs ds n o e = judged_append cs ds o ∙ stopped cs n (judged ds o) e

pub passed_first : (cs ds : List Check) (o : Outcome) → AllPass cs → judged (cs ++ ds) o ≡ judged ds o
passed_first cs ds o p = judged_append cs ds o ∙ judged_pass p (judged ds o)

-- A refused call leaves the output as it was, and an accepted one gives it the outcome's bytes.
pub answered_refused : {o : Outcome} {c : ℕ} (out : List ℕ) → o ≡ refused c → Answered o out (Err c) out
unfolding after
answered_refused out e = rw e (record { case = refl; output = refl })

pub answered_accepted : {o : Outcome} {n : ℕ} {bs : List ℕ} (out exit : List ℕ) → o ≡ accepted n bs → exit ≡ bs
    → Answered o out (Ok n) exit
unfolding after
answered_accepted out exit e h = rw e (record { case = refl; output = h })

-- The outcome by another name.
pub answered_same : {o o' : Outcome} {out exit : List ℕ} {r : Result ℕ ℕ} → o' ≡ o → Answered o out r exit
    → Answered o' out r exit
answered_same e g = rw e g

-- The first group of a call's checks, made by a part of the call that answered r, refuses the call.
pub refused_by : (cs ds : List Check) (n : ℕ) (o : Outcome) (out : List ℕ) {r : Result ℕ ℕ} {c : ℕ}
    → r ≡ answer_of (judged cs (accepted n [])) → r ≡ Err c
    → Answered (judged (cs ++ ds) o) out r out
refused_by cs ds n o out e h = rw h (answered_refused out (stopped_first cs ds n o (sym h ∙ e)))

-- A refusal that went up by `?`.
pub answered_up : {o : Outcome} {out exit : List ℕ} (r : Result ℕ Answer·Check) (x : Answer·Check)
    → IsErrAnd r (λ y. y ≡ x) → Answered o out (numbered (Err x)) exit → Answered o out (numbered r) exit
answered_up (Ok n) x h g = absurd h
answered_up (Err y) x h g = rw h g
