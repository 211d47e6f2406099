-- `planbook::planbook_decrypt_book` meets its contract: the number of the answer, and the output,
-- of the call with its task.
use Rattle.call_answer.specs.Answer.{answers}
use Rattle.call_answer.specs.Judging.{answered_same}
use Rattle.call_tasks.specs.Tasks.{decrypt_book_task}
use Rattle.planbook.proofs.planbook_decrypt_book.Goals as goal

pub returns : goal.returns
returns c = answers (answered_same (decrypt_book_task _ _ _ _) c.call.ensures)
    c.answer_number.ensures
