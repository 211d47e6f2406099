-- `book_check_encrypted::check_encrypted_book` meets its contract: the form, and then the records.
use Rattle.std.proofs.Common.{refl, sym, ◌∙◌}
use Rattle.std.proofs.lemmas.Result.{err_from_is_err_and}
use Rattle.clefia_spec.specs.Block.{decrypt_under}
use Rattle.planbook_spec.specs.Outcome.{judged}
use Rattle.planbook_spec.specs.Book.{decrypt_body}
use Rattle.book_form.specs.BookAnswer.{book_stopped, form_formed, by_records}
use Rattle.book_check_encrypted.proofs.check_encrypted_book.Goals as goal

pub returns-in_err-records : goal.returns-in_err-records
returns-in_err-records g c =
    let p = err_from_is_err_and c.from_residual.result c.from_residual.ensures.1 in
    rw (p.1, p.2) (book_stopped 2 _ _ c.in_err-records.ensures refl)

pub decrypted_records_hold-requires : goal.decrypted_records_hold-requires
decrypted_records_hold-requires g c =
    form_formed 2 (decrypt_body (decrypt_under c.args.cipher.expanded.now)) _ c.in_ok-records.ensures

pub returns-then-not-decrypted_records_hold : goal.returns-then-not-decrypted_records_hold
unfolding judged
returns-then-not-decrypted_records_hold g c =
    by_records 2 _ _ c.in_ok-records.ensures
    (sym c.decrypted_records_hold.ensures ∙ c.if-not-decrypted_records_hold.true)

pub returns : goal.returns
unfolding judged
returns g c =
    by_records 2 _ _ c.in_ok-records.ensures
    (sym c.decrypted_records_hold.ensures ∙ c.if-not-decrypted_records_hold.false)
