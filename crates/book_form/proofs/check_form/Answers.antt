use Rattle.std.proofs.Common.{refl, take}
use Rattle.std.proofs.lemmas.Result.{err_from_is_err_and}
use Rattle.planbook_spec.specs.Book.{sheet_count, form_checks}
use Rattle.call_answer.specs.Judging.{group_passed}
use Rattle.book_form.specs.FormLaws.{head_formed, form_stopped, form_passed}
use Rattle.book_form.proofs.check_form.Goals as goal

pub returns-in_err-sheets : goal.returns-in_err-sheets
returns-in_err-sheets c =
    let p = err_from_is_err_and c.from_residual.result c.from_residual.ensures.1 in
    rw (p.1, p.2) (form_stopped _ _ c.in_err-sheets.ensures refl)

pub check_contents-requires : goal.check_contents-requires
check_contents-requires c = head_formed _ _ c.in_ok-sheets.ensures

pub returns : goal.returns
returns c =
    form_passed c.args.kind _
    (group_passed (take 4 (form_checks _ _)) (sheet_count _) c.in_ok-sheets.ensures).checks
    c.check_contents.ensures
