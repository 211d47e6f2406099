-- `call_constants::constants` meets its contract: for each key length its constants, and otherwise
-- check 1.
use Rattle.std.proofs.Common.{arith}
use Rattle.clefia_spec.specs.Words.{sixteen, twenty_four, thirty_two}
use Rattle.call_answer.specs.Judging.{answered_refused}
use Rattle.call_constants.specs.ConstantsLaws.{answered_constants, constants_refused}
use Rattle.call_constants.proofs.constants.Goals as goal

pub returns-in-16 : goal.returns-in-16
returns-in-16 c =
    answered_constants sixteen c.in-16.is
    c.sixteen.ensures c.write_words.ensures

pub returns-in-24 : goal.returns-in-24
returns-in-24 c =
    answered_constants twenty_four c.in-24.is
    c.twenty_four.ensures c.write_words-in-24.ensures

pub returns-in-32 : goal.returns-in-32
returns-in-32 c =
    answered_constants thirty_two c.in-32.is
    c.thirty_two.ensures c.write_words-in-32.ensures

pub returns-in_default : goal.returns-in_default
returns-in_default c =
    answered_refused _ (constants_refused _ _ (λ e. omega arith) (λ e. omega arith) (λ e. omega arith))
