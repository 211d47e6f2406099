-- Laws of a whole call: its answer and its output, by each way out.
use Rattle.std.specs.Prelude.{ℕ, ◌+◌, ◌*◌, ◌≤◌, ◌≡◌, refl, Bool, not, List, [], ◌++◌, length, take, set, Result, Ok, Err}
use Rattle.std.proofs.Common.{sym, ap, ◌∙◌, arith, eq-eqb, ne_eqb}
use Rattle.call_answer.specs.Answer.{Answered}
use Rattle.planbook_spec.specs.Outcome.{Outcome, accepted, judged}
use Rattle.planbook_spec.specs.OutcomeLaws.{judged_pass, pass_left}
use Rattle.planbook_spec.specs.Checks.{output_check}
use Rattle.planbook_spec.specs.Book.{sheet_count, contents, bodies, record_count, form_checks, each_body, form_and_records}
use Rattle.planbook_spec.specs.Book.{map_bodies, book_checks}
use Rattle.planbook_laws.specs.WalkLaws.{map_bodies_front, bodies_at}
use Rattle.book_form.specs.BookAnswer.{book_answer}
use Rattle.planbook_laws.specs.BookLaws.{Formed, formed}
use Rattle.call_answer.specs.Judging.{stopped, GroupPassed, group_passed, answered_refused, answered_accepted}
use Rattle.book_chain.specs.Crypt.{crypted_body}
use Rattle.book_call.specs.Directions.{kind_of, clear_body, crypted_book}

-- The front and the bodies are the book.
pub map_bodies_whole : (kind : ℕ) (f : List ℕ → List ℕ → List ℕ) {book : List ℕ} {front : List ℕ} → Formed book
    → front ≡ set (take (4 + 24 * sheet_count book) book) 0 kind
    → front ++ each_body f (contents book) (bodies book) ≡ map_bodies kind f book
map_bodies_whole kind f {book} g e =
    let l : 4 ≤ length book = omega (arith, g.size) in
    rw (e, bodies_at book) (sym (map_bodies_front kind f book l))

module _ (decrypting : Bool) (w book : List ℕ) where
  -- The whole call, by each way out: a wrong length of the output, a check of the book, the other
  -- book.
  module _ (out : List ℕ) where
    pub wrong_output : (length out ≡ length book → ⊥) → Answered (crypted_book decrypting w book out) out
        (Err 4) out
    unfolding book_checks output_check judged
    wrong_output h = answered_refused out (rw (ne_eqb _ _ h))

    module _ (same : length out ≡ length book) where
      after_output : (o : Outcome) → judged (book_checks [] (kind_of decrypting) (clear_body decrypting w) book out) o
          ≡ judged (form_and_records (kind_of decrypting) (clear_body decrypting w) book) o
      unfolding book_checks output_check judged
      after_output o = rw (eq-eqb _ _ same)

      pub wrong_book : {r : Result ℕ ℕ} {c : ℕ} → r ≡ book_answer (kind_of decrypting) (clear_body decrypting w) book
          → r ≡ Err c → Answered (crypted_book decrypting w book out) out r out
      wrong_book e h = rw h (answered_refused out
          (after_output _ ∙ stopped (form_and_records _ _ book) (record_count (contents book)) _ (sym h ∙ e)))

      module _ {records : ℕ} (e : Ok records ≡ book_answer (kind_of decrypting)
          (clear_body decrypting w) book) where
        passed_book : GroupPassed (form_and_records (kind_of decrypting) (clear_body decrypting w) book)
            (record_count (contents book)) records
        passed_book = group_passed (form_and_records (kind_of decrypting) (clear_body decrypting w) book)
            (record_count (contents book)) e

        pub checked_formed : Formed book
        checked_formed = formed (kind_of decrypting) book
            (pass_left (form_checks (kind_of decrypting) book) _ passed_book.checks)

        pub right_book : Answered (crypted_book decrypting w book out) out (Ok records)
            (map_bodies (kind_of (not decrypting)) (crypted_body decrypting w) book)
        right_book =
            answered_accepted out _
            (after_output _ ∙ judged_pass passed_book.checks _
            ∙ ap (λ (n : ℕ). accepted n (map_bodies (kind_of (not decrypting)) (crypted_body decrypting w) book))
            (sym passed_book.same))
            refl
