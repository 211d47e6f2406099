-- `call_checks::write_words` meets its contract: check 4 is its one test.
use borrow.Author.Tests.{eq-eqb, ne_eqb}
use mathlib.Core.List.{[]}
use Rattle.planbook_spec.specs.Checks.{output_check}
use Rattle.planbook_spec.specs.OutcomeLaws.{judged_true, judged_false}
use Rattle.planbook_spec.specs.Outcome.{judged}
use Rattle.call_answer.specs.Judging.{answered_refused, answered_accepted}
use Rattle.call_checks.proofs.write_words.Goals as goal

pub returns-then-out-src : goal.returns-then-out-src
unfolding output_check
returns-then-out-src c = answered_refused _ (judged_false (ne_eqb _ _ c.if-out-src.true) 4 [] _)

pub returns : goal.returns
unfolding output_check judged
returns c = answered_accepted _ _ (judged_true (eq-eqb _ _ c.if-out-src.false) 4 [] _)
    c.store_all.ensures
