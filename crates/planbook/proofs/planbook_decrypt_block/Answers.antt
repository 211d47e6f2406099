-- `planbook::planbook_decrypt_block` meets its contract: the number of the answer, and the output,
-- of the call with its task.
use Rattle.call_answer.specs.Answer.{answers}
use Rattle.call_answer.specs.Judging.{answered_same}
use Rattle.call_tasks.specs.Tasks.{decrypt_block_task}
use Rattle.planbook.proofs.planbook_decrypt_block.Goals as goal

pub returns : goal.returns
returns c = answers (answered_same (decrypt_block_task _ _ _ _) c.call.ensures)
    c.answer_number.ensures
