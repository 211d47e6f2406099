-- The sheet that a page shows, where code finds it in the book, and the call's answer by each way
-- out.
use Rattle.std.specs.Prelude.{ℕ, ◌+◌, ◌-◌, ◌*◌, ◌/◌, ◌<◌, ◌≡◌, length, take, drop, Ok, Err}
use mathlib.Core.List.{List, [], ◌∷◌, ◌++◌}
use Rattle.std.proofs.Common.{sym, ap, ◌∙◌, arith, eq-eqb, ne_eqb, drop-drop}
use Rattle.planbook_spec.specs.Outcome.{accepted, judged}
use Rattle.planbook_spec.specs.OutcomeLaws.{none, judged_pass, judged_true, judged_false}
use Rattle.planbook_spec.specs.Checks.{output_check}
use Rattle.planbook_spec.specs.Book.{pieces, count, sheet_count, bodies, record_count, sheet_entry, sheet_body}
use Rattle.planbook_spec.specs.Page.{heading, lines, page, line_count}
use Rattle.planbook_laws.specs.BookLaws.{Formed}
use Rattle.planbook_laws.specs.SheetLaws.{length_sheet_body}
use Rattle.call_answer.specs.Answer.{Answered}
use Rattle.call_answer.specs.Judging.{answered_refused, answered_accepted}
use Rattle.book_sheets.specs.declared.Cursor.{Cursor}
use Rattle.book_sheets.specs.Cursors.{entry_at, Next, at_end, body_part, Reached}

module _ {book : List ℕ} (i : ℕ) (f : Formed book) (there : i < sheet_count book) {c n : Cursor} (r : Reached book i c)
    (s : Next book c n) where
  entry_at_lem : entry_at book c ≡ sheet_entry i book
  entry_at_lem = ap (λ (k : ℕ). take 24 (drop k book)) r.from ∙ ap (take 24) (sym (drop-drop (24 * i) 4 book))

  -- The number of records, as code reads it off the two ends.
  pub records_between : (n.at - c.at) / 16 ≡ count (sheet_entry i book)
  records_between = let e : n.at ≡ c.at + 16 * count (sheet_entry i book) = rw entry_at_lem at (at_end s) in omega arith

  body_between : take (n.at - c.at) (drop c.at book) ≡ sheet_body i book
  body_between =
      let d : drop c.at book ≡ drop (16 * record_count (pieces 24 i (drop 4 book))) (bodies book) =
      ap (λ (k : ℕ). drop k book) r.start
      ∙ sym (drop-drop (16 * record_count (pieces 24 i (drop 4 book))) (4 + 24 * sheet_count book) book)
      ∙ ap (drop (16 * record_count (pieces 24 i (drop 4 book)))) (sym (drop-drop (24 * sheet_count book) 4 book)) in
      body_part s ∙ rw (entry_at_lem, d)

  pub length_between : length (take (n.at - c.at) (drop c.at book)) ≡ 16 * ((n.at - c.at) / 16)
  length_between = rw (body_between, records_between) (length_sheet_body i f there)

  -- Check 4 fails, or the page is written.
  pub wrong_length : (out : List ℕ) → (length out ≡ 32 * ((n.at - c.at) / 16 + 1) → ⊥)
      → Answered (judged (output_check (32 * line_count i book) out ∷ []) (accepted (line_count i book)
      (page i book))) out
      (Err 4) out
  unfolding output_check
  wrong_length out h = answered_refused out (judged_false (ne_eqb _ _ (rw records_between at h)) 4 [] _)

  pub page_written : (out : List ℕ) {exit : List ℕ} → length out ≡ 32 * ((n.at - c.at) / 16 + 1)
      → exit ≡ heading ++ lines (pieces 16 ((n.at - c.at) / 16) (take (n.at - c.at) (drop c.at book)))
      → Answered (judged (output_check (32 * line_count i book) out ∷ []) (accepted (line_count i book)
      (page i book))) out
      (Ok ((n.at - c.at) / 16 + 1)) exit
  unfolding output_check page
  page_written out h e =
      rw records_between
      (answered_accepted out _ (judged_true (eq-eqb _ _ (rw records_between at h)) 4 [] _ ∙ judged_pass none _)
      (rw (body_between, records_between) at e))
