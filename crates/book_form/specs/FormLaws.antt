-- Laws of a book's form: what the first group of checks gives the second, and the two together.
use Rattle.std.specs.Prelude.{ℕ, ◌+◌, ◌*◌, ◌≤◌, ◌≡◌, List, length, take, drop, Result, Ok, Err}
use Rattle.std.proofs.Math.Path.{sym}
use Rattle.std.proofs.Common.{ap, ◌∙◌, leb-true}
use Rattle.call_answer.specs.Answer.{answer_of}
use Rattle.planbook_spec.specs.Outcome.{accepted}
use Rattle.planbook_spec.specs.OutcomeLaws.{AllPass, pass_head, pass_tail}
use Rattle.planbook_spec.specs.Book.{sheet_count, form_checks}
use Rattle.book_form.specs.Form.{head_answer, contents_answer, form_answer}
use Rattle.call_answer.specs.Judging.{stopped_first, passed_first, GroupPassed, group_passed}

-- What passed checks say of a book's sizes.
pub record HeadFits (book : List ℕ) : Type 0 where
  pub few : sheet_count book ≤ 64
  pub long : 4 + 24 * sheet_count book ≤ length book

pub head_fits : (kind : ℕ) (book : List ℕ) → AllPass (take 4 (form_checks kind book)) → HeadFits book
unfolding form_checks
head_fits kind book p =
    let q : AllPass (drop 2 (take 4 (form_checks kind book))) = pass_tail (pass_tail p) in
    record { few = leb-true _ 64 (pass_head q); long = leb-true _ (length book) (pass_head (pass_tail q)) }

module _ (kind : ℕ) (book : List ℕ) {r : Result ℕ ℕ} where
  pub form_stopped : {c : ℕ} → r ≡ head_answer kind book → r ≡ Err c → r ≡ form_answer kind book
  unfolding form_checks
  form_stopped {c} e h =
      h ∙ sym (ap answer_of (stopped_first (take 4 (form_checks kind book)) (drop 4 (form_checks kind book))
      (sheet_count book) (accepted _ _) (sym h ∙ e)))

  pub form_passed : AllPass (take 4 (form_checks kind book)) → r ≡ contents_answer book → r ≡ form_answer kind book
  unfolding form_checks
  form_passed p e = e
      ∙ sym (ap answer_of (passed_first (take 4 (form_checks kind book)) (drop 4 (form_checks kind book))
      (accepted _ _) p))

-- The number of sheets that the first group answers.
pub head_formed : (kind : ℕ) (book : List ℕ) {sheets : ℕ} → Ok sheets ≡ head_answer kind book
    → (sheets ≡ sheet_count book) × (sheets ≤ 64) × (4 + 24 * sheets ≤ length book)
head_formed kind book e =
    let w : GroupPassed (take 4 (form_checks kind book)) (sheet_count book) _ =
    group_passed (take 4 (form_checks kind book)) (sheet_count book) e in
    let f : HeadFits book = head_fits kind book w.checks in
    (w.same, rw w.same f.few, rw w.same f.long)
