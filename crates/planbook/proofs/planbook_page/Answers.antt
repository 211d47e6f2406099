-- `planbook::planbook_page` meets its contract: the number of the answer, and the output, of the
-- call below.
use Rattle.call_answer.specs.Answer.{answers}
use Rattle.planbook.proofs.planbook_page.Goals as goal

pub returns : goal.returns
returns c = answers c.page.ensures c.answer_number.ensures
