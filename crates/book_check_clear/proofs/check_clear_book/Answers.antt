-- `book_check_clear::check_clear_book` meets its contract: the form, and then the records.
use Rattle.std.proofs.Common.{refl, sym, ◌∙◌}
use Rattle.std.proofs.lemmas.Result.{err_from_is_err_and}
use Rattle.planbook_spec.specs.Outcome.{judged}
use Rattle.planbook_spec.specs.Book.{as_it_is}
use Rattle.book_form.specs.BookAnswer.{book_stopped, form_formed, by_records}
use Rattle.book_check_clear.proofs.check_clear_book.Goals as goal

pub returns-in_err-records : goal.returns-in_err-records
returns-in_err-records c =
    let p = err_from_is_err_and c.from_residual.result c.from_residual.ensures.1 in
    rw (p.1, p.2) (book_stopped 1 as_it_is _ c.in_err-records.ensures refl)

pub clear_records_hold-requires : goal.clear_records_hold-requires
clear_records_hold-requires c = form_formed 1 as_it_is _ c.in_ok-records.ensures

pub returns-then-not-clear_records_hold : goal.returns-then-not-clear_records_hold
unfolding judged
returns-then-not-clear_records_hold c =
    by_records 1 as_it_is _ c.in_ok-records.ensures
    (sym c.clear_records_hold.ensures ∙ c.if-not-clear_records_hold.true)

pub returns : goal.returns
unfolding judged
returns c =
    by_records 1 as_it_is _ c.in_ok-records.ensures
    (sym c.clear_records_hold.ensures ∙ c.if-not-clear_records_hold.false)
