-- `page_call::page` meets its contract: the checks of the book, that of the sheet, and what is left
-- for the sheet that there is.
-- From the `?` on the book has passed, with what its checks count, the records of all its sheets:
-- `in_ok-check_clear_book` ensures it.
use Rattle.std.proofs.Common.{refl, arith}
use Rattle.call_answer.specs.Judging.{answered_up}
use Rattle.page_call.specs.PageCall.{wrong_book, page_formed, no_sheet, a_sheet}
use Rattle.page_call.proofs.page.Goals as goal

pub returns-in_err-check_clear_book : goal.returns-in_err-check_clear_book
returns-in_err-check_clear_book c =
    answered_up _ _ c.from_residual.ensures.1
    (wrong_book c.args.book.now c.args.sheet c.args.out.now c.in_err-check_clear_book.ensures refl)

pub u16_at-requires : goal.u16_at-requires
u16_at-requires c = omega (arith, (page_formed _ c.in_ok-check_clear_book.ensures).size)

pub returns-then-u16_at-sheet : goal.returns-then-u16_at-sheet
returns-then-u16_at-sheet c =
    no_sheet _ c.in_ok-check_clear_book.ensures _ _ (rw c.u16_at.ensures at c.if-u16_at-sheet.true)

pub sheet_page-requires : goal.sheet_page-requires
sheet_page-requires c =
    (page_formed _ c.in_ok-check_clear_book.ensures, rw c.u16_at.ensures at c.if-u16_at-sheet.false)

pub returns : goal.returns
returns c =
    a_sheet _ c.in_ok-check_clear_book.ensures _ _
    (rw c.u16_at.ensures at c.if-u16_at-sheet.false) c.sheet_page.ensures
