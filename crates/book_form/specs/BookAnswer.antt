-- Checks 5 to 11 of a book, the form and then the records. f makes a body clear.
use Rattle.std.specs.Prelude.{ℕ, ◌≡◌, Bool, List, [], ◌∷◌, Result, Ok, Err}
use Rattle.std.proofs.Math.Path.{sym}
use Rattle.std.proofs.Common.{ap, ◌∙◌}
use Rattle.call_answer.specs.Answer.{answer_of}
use Rattle.call_answer.specs.Judging.{stopped_first, passed_first, GroupPassed, group_passed}
use Rattle.planbook_spec.specs.Outcome.{accepted, check, judged}
use Rattle.planbook_spec.specs.Book.{contents, bodies, record_count, form_checks, sheets_hold, records_check}
use Rattle.planbook_spec.specs.Book.{form_and_records}
use Rattle.planbook_laws.specs.BookLaws.{Formed, formed}
use Rattle.book_form.specs.Form.{form_answer}

-- The first of the checks that fails, or the count of the records.
abbrev pub book_answer : ℕ → (List ℕ → List ℕ → List ℕ) → List ℕ → Result ℕ ℕ
book_answer kind f book = answer_of (judged (form_and_records kind f book) (accepted (record_count (contents book)) []))

-- A wrong form; and, once the form holds, the records.
module _ (kind : ℕ) (f : List ℕ → List ℕ → List ℕ) (book : List ℕ) where
  pub book_stopped : {r : Result ℕ ℕ} {c : ℕ} → r ≡ form_answer kind book → r ≡ Err c → r ≡ book_answer kind f book
  book_stopped e h = h
      ∙ sym (ap answer_of (stopped_first (form_checks kind book) _ (record_count (contents book)) _ (sym h ∙ e)))

  module _ {records : ℕ} (e : Ok records ≡ form_answer kind book) where
    passed_form : GroupPassed (form_checks kind book) (record_count (contents book)) records
    passed_form = group_passed (form_checks kind book) (record_count (contents book)) e

    pub form_formed : Formed book
    form_formed = formed kind book passed_form.checks

    pub by_records : {t : Bool} → sheets_hold f (contents book) (bodies book) ≡ t
        → answer_of (judged (check 11 t ∷ []) (accepted records [])) ≡ book_answer kind f book
    unfolding records_check
    by_records h = sym (ap answer_of (passed_first (form_checks kind book) _ _ passed_form.checks)
        ∙ (rw (h, passed_form.same)))
