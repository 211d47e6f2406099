-- `planbook::planbook_crypt_note` meets its contract: the number of the answer, and the output, of
-- the call with its task.
use Rattle.call_answer.specs.Answer.{answers}
use Rattle.call_answer.specs.Judging.{answered_same}
use Rattle.call_tasks.specs.Tasks.{crypt_note_task}
use Rattle.planbook.proofs.planbook_crypt_note.Goals as goal

pub returns : goal.returns
returns c = answers (answered_same (crypt_note_task _ _ _ _ _) c.call.ensures)
    c.answer_number.ensures
