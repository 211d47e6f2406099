-- The first two checks of a call that takes a way: some check k, then check 2, then others.
use Rattle.std.specs.Prelude.{ℕ, Bool, true, false, not, ◌||◌, List, [], ◌∷◌, ◌≡◌, refl, eqb, Result, Ok, Err}
use Rattle.std.proofs.Common.{sym, ap, ◌∙◌}
use borrow.Author.Tests.{not-true, not-false}
use Rattle.call_answer.specs.declared.Check.{Check as Answer·Check}
use Rattle.call_answer.specs.Answer.{answer_of, numbered, Answered}
use Rattle.call_answer.specs.Judging.{refused_by, passed_first, answered_refused, answered_same}
use Rattle.planbook_spec.specs.Outcome.{Outcome, accepted, Check, judged}
use Rattle.planbook_spec.specs.OutcomeLaws.{AllPass, judged_true, judged_false}
use Rattle.planbook_spec.specs.Checks.{way_check}
use Rattle.call_checks.specs.declared.Way.{Way}
use Rattle.call_checks.specs.Ways.{way_of, way_known, way_unknown}

module _ (k : Check) (way : ℕ) (ds : List Check) (o : Outcome) (out : List ℕ) where
  pub first_refuses : (n : ℕ) {r : Result ℕ ℕ} {c : ℕ} → r ≡ answer_of (judged (k ∷ []) (accepted n [])) → r ≡ Err c
      → Answered (judged (k ∷ way_check way ∷ ds) o) out r out
  first_refuses n e h = refused_by (k ∷ []) (way_check way ∷ ds) n o out e h

  -- The first is passed, and t is what the code found of the way.
  module _ {t : Bool} (p : AllPass (k ∷ [])) (e : t ≡ (eqb way 1 || eqb way 2 || eqb way 3)) where
    pub way_refuses : not t ≡ true → Answered (judged (k ∷ way_check way ∷ ds) o) out (Err 2) out
    unfolding way_check
    way_refuses h = answered_refused out (passed_first (k ∷ []) (way_check way ∷ ds) o p
        ∙ judged_false (sym e ∙ not-true t h) 2 ds o)

    pub way_accepts : not t ≡ false → {r : Result ℕ ℕ} {exit : List ℕ} → Answered (judged ds o) out r exit
        → Answered (judged (k ∷ way_check way ∷ ds) o) out r exit
    unfolding way_check
    way_accepts h g = answered_same (passed_first (k ∷ []) (way_check way ∷ ds) o p
        ∙ judged_true (sym e ∙ not-false t h) 2 ds o) g

  -- The first is passed, and the way was looked up.
  module _ (p : AllPass (k ∷ [])) where
    pub no_way : {c : Answer·Check} → Err c ≡ way_of way
        → Answered (judged (k ∷ way_check way ∷ ds) o) out (numbered (Err c)) out
    no_way e = rw (way_unknown way e).0 (way_refuses p refl (ap not (way_unknown way e).1))

    pub a_way : {w : Way} → Ok w ≡ way_of way → {r : Result ℕ ℕ} {exit : List ℕ} → Answered (judged ds o) out r exit
        → Answered (judged (k ∷ way_check way ∷ ds) o) out r exit
    a_way e g = way_accepts p refl (ap not (way_known way e)) g
