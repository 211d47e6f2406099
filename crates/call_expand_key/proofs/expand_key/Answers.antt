-- `call_expand_key::expand_key` meets its contract: checks 1 and 2, and then the words.
use Rattle.std.proofs.Common.{refl, sym, ◌∙◌, length-take-le}
use Rattle.planbook_spec.specs.Checks.{expand_key_call}
use Rattle.call_answer.specs.Judging.{answered_up}
use Rattle.call_checks.specs.FirstChecks.{first_refuses, no_way, a_way}
use Rattle.call_expand_key.specs.ExpandLaws.{KeyPassed, key_passed, expanded_call}
use Rattle.call_expand_key.proofs.expand_key.Goals as goal
use Rattle.call_expand_key.proofs.expand_key.Goals.{In_ok-count}

passed : (c : In_ok-count) → KeyPassed c.args.key.now c.in_ok-count.count
passed c = key_passed _ c.in_ok-count.ensures

pub returns-in_err-count : goal.returns-in_err-count
unfolding expand_key_call
returns-in_err-count c =
    answered_up _ _ c.from_residual.ensures.1 (first_refuses _ _ _ _ _ _ c.in_err-count.ensures refl)

pub returns-in_err-way : goal.returns-in_err-way
unfolding expand_key_call
returns-in_err-way c =
    answered_up _ _ c.from_residual-in_err-way.ensures.1
    (no_way _ _ _ _ _ (passed (goal.at.returns-in_err-way c).In_ok-count).checks c.in_err-way.ensures)

pub slice_bounds-expanded-end : goal.slice_bounds-expanded-end
slice_bounds-expanded-end c = (passed (goal.at.slice_bounds-expanded-end c).In_ok-count).most

pub slice_bounds-write_by-end : goal.slice_bounds-write_by-end
slice_bounds-write_by-end c =
    sym (length-take-le _ _ (passed (goal.at.slice_bounds-write_by-end c).In_ok-count).most)

pub write_by-requires : goal.write_by-requires
write_by-requires c =
    let p : KeyPassed c.args.key.now c.in_ok-count.count = passed (goal.at.write_by-requires c).In_ok-count in
    record { key_length = p.long; expanded_len = length-take-le _ _ p.most ∙ p.count }

pub returns : goal.returns
unfolding expand_key_call expanded_call
returns c = a_way _ _ _ _ _ (passed (goal.at.returns c).In_ok-count).checks c.in_ok-way.ensures c.write_by.ensures
