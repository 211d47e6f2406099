-- `call_with_words::call` meets its contract: checks 14 and 2, and then the task.
use Rattle.std.proofs.Common.{[], refl, sym, length-take-le}
use Rattle.planbook_spec.specs.Outcome.{judged}
use Rattle.call_answer.specs.Judging.{answered_up}
use Rattle.call_checks.specs.FirstChecks.{first_refuses, no_way, a_way}
use Rattle.call_tasks.specs.Tasks.{task_call}
use Rattle.call_with_words.specs.CallLaws.{WordsPassed, words_passed}
use Rattle.call_with_words.proofs.call.Goals as goal
use Rattle.call_with_words.proofs.call.Goals.{In_ok-count}

passed : (c : In_ok-count) → WordsPassed c.args.words.now c.in_ok-count.count
passed c = words_passed _ c.in_ok-count.ensures

pub returns-in_err-count : goal.returns-in_err-count
unfolding task_call
returns-in_err-count c =
    answered_up _ _ c.from_residual.ensures.1 (first_refuses _ _ _ _ _ _ c.in_err-count.ensures refl)

pub returns-in_err-way : goal.returns-in_err-way
unfolding task_call
returns-in_err-way c =
    answered_up _ _ c.from_residual-in_err-way.ensures.1
    (no_way _ _ _ _ _ (passed (goal.at.returns-in_err-way c).In_ok-count).checks c.in_err-way.ensures)

pub slice_bounds-expanded-end : goal.slice_bounds-expanded-end
slice_bounds-expanded-end c = (passed (goal.at.slice_bounds-expanded-end c).In_ok-count).most

pub slice_bounds-perform_by-end : goal.slice_bounds-perform_by-end
slice_bounds-perform_by-end c =
    sym (length-take-le _ _ (passed (goal.at.slice_bounds-perform_by-end c).In_ok-count).most)

pub perform_by-requires : goal.perform_by-requires
perform_by-requires c =
    let p : WordsPassed c.args.words.now c.in_ok-count.count = passed (goal.at.perform_by-requires c).In_ok-count in
    record { words_len = rw (length-take-le _ _ p.most) p.bytes; in_bounds = rw (length-take-le _ _ p.most) p.least }

pub returns : goal.returns
unfolding task_call judged
returns c = a_way _ _ [] _ _ (passed (goal.at.returns c).In_ok-count).checks c.in_ok-way.ensures c.perform_by.ensures
