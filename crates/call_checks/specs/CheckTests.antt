-- A check by the test that the code made, and the count for a permitted key.
use Rattle.std.specs.Prelude.{ℕ, ◌+◌, Bool, true, false, not, ◌||◌, [], ◌∷◌, ◌≡◌, refl, eqb, Ok, Err}
use Rattle.std.proofs.Common.{sym, ap, ◌∙◌}
use Rattle.std.proofs.lemmas.Bool.{not-true, not-false}
use Rattle.clefia_spec.specs.Words.{by_key_length, KeyLength, sixteen, twenty_four, thirty_two}
use Rattle.call_answer.specs.Answer.{answer_of}
use Rattle.planbook_spec.specs.Outcome.{Outcome, accepted, check, judged}
use Rattle.planbook_spec.specs.OutcomeLaws.{none, pass_check, judged_pass, judged_true, judged_false}
use Rattle.planbook_spec.specs.Checks.{key_check, expanded_count}
use Rattle.planbook_laws.specs.CheckLaws.{key_permitted}

-- The test t, whose result in the code is r.
module _ {r t : Bool} (e : r ≡ t) where
  pub check_fails : not r ≡ true → (c : ℕ) (o : Outcome) → Err c ≡ answer_of (judged (check c t ∷ []) o)
  check_fails h c o = sym (ap answer_of (judged_false (sym e ∙ not-true r h) c [] o))

  pub test_passed : not r ≡ false → t ≡ true
  test_passed h = sym e ∙ not-false r h

  pub check_passes : not r ≡ false → (c n : ℕ) → Ok n ≡ answer_of (judged (check c t ∷ []) (accepted n []))
  check_passes h c n = sym (ap answer_of (judged_true (test_passed h) c [] _ ∙ judged_pass none _))

-- ---- check 1

pub expanded_size : (n : ℕ) → eqb n 16 || eqb n 24 || eqb n 32 ≡ true → 24 + n ≡ expanded_count n
unfolding key_check expanded_count
expanded_size n e = size (key_permitted {n = n} {cs = []} (pass_check e))
  where
    size : {n : ℕ} → KeyLength n → 24 + n ≡ by_key_length n 40 48 56
    size sixteen = refl
    size twenty_four = refl
    size thirty_two = refl
