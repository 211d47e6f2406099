-- The whole call, by each way out: a check of the book, no such sheet, the sheet.
use Rattle.std.specs.Prelude.{ℕ, ◌*◌, ◌≤◌, ◌<◌, List, [], ◌∷◌, ◌≡◌, Result, Ok, Err}
use Rattle.std.proofs.Common.{◌∙◌, lt-ltb, le-ltb}
use Rattle.planbook_spec.specs.Outcome.{accepted, judged}
use Rattle.planbook_spec.specs.OutcomeLaws.{AllPass, pass_left, judged_true, judged_false}
use Rattle.planbook_spec.specs.Checks.{output_check}
use Rattle.planbook_spec.specs.Book.{sheet_count, contents, record_count, form_checks, as_it_is, form_and_records}
use Rattle.planbook_spec.specs.Page.{page, line_count, sheet_check, page_checks, page_call}
use Rattle.planbook_laws.specs.BookLaws.{Formed, formed}
use Rattle.call_answer.specs.Answer.{Answered}
use Rattle.call_answer.specs.Judging.{refused_by, passed_first, group_passed, answered_refused, answered_same}
use Rattle.book_form.specs.BookAnswer.{book_answer}

pub wrong_book : (book : List ℕ) (i : ℕ) (out : List ℕ) {r : Result ℕ ℕ} {c : ℕ} → r ≡ book_answer 1 as_it_is book
    → r ≡ Err c → Answered (page_call book i out) out r out
unfolding page_call page_checks
wrong_book book i out e h = refused_by (form_and_records 1 as_it_is book) _ (record_count (contents book)) _ out e h

module _ (book : List ℕ) {records : ℕ} (e : Ok records ≡ book_answer 1 as_it_is book) where
  checked : AllPass (form_and_records 1 as_it_is book)
  checked = (group_passed (form_and_records 1 as_it_is book) (record_count (contents book)) e).checks

  pub page_formed : Formed book
  page_formed = formed 1 book (pass_left (form_checks 1 book) _ checked)

  module _ (i : ℕ) (out : List ℕ) where
    -- What is left of the call.
    after_book : page_call book i out ≡ judged (sheet_check i book ∷ output_check (32 * line_count i book) out ∷ [])
        (accepted (line_count i book) (page i book))
    unfolding page_call page_checks
    after_book = passed_first (form_and_records 1 as_it_is book) _ _ checked

    pub no_sheet : sheet_count book ≤ i → Answered (page_call book i out) out (Err 13) out
    unfolding sheet_check
    no_sheet h = answered_refused out (after_book ∙ judged_false (le-ltb i (sheet_count book) h) 13 _ _)

    pub a_sheet : {r : Result ℕ ℕ} {exit : List ℕ} → i < sheet_count book
        → Answered (judged (output_check (32 * line_count i book) out ∷ []) (accepted (line_count i book)
        (page i book)))
        out r exit → Answered (page_call book i out) out r exit
    unfolding sheet_check
    a_sheet h g = answered_same (after_book ∙ judged_true (lt-ltb i (sheet_count book) h) 13 _ _) g
