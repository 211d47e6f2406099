-- `planbook::planbook_constants` meets its contract: the number of the answer, and the output, of
-- the call below.
use Rattle.call_answer.specs.Answer.{answers}
use Rattle.planbook.proofs.planbook_constants.Goals as goal

pub returns : goal.returns
returns c = answers c.constants.ensures c.answer_number.ensures
