-- `call_with_words::perform_by` meets its contract: the words are read, and the task is done under
-- them.
use Rattle.call_with_words.specs.CallLaws.{answered_read}
use Rattle.call_with_words.proofs.perform_by.Goals as goal

pub returns-in-ByteTables : goal.returns-in-ByteTables
returns-in-ByteTables c =
    answered_read _ _ _ _ _ c.requires.words_len c.load_all.ensures (rw c.new.ensures at c.perform.ensures)

pub returns-in-WordTables : goal.returns-in-WordTables
returns-in-WordTables c =
    answered_read _ _ _ _ _ c.requires.words_len c.load_all.ensures
    (rw c.new-in-WordTables.ensures at c.perform-in-WordTables.ensures)

pub returns-in-Rules : goal.returns-in-Rules
returns-in-Rules c =
    answered_read _ _ _ _ _ c.requires.words_len c.load_all.ensures
    (rw c.new-in-Rules.ensures at c.perform-in-Rules.ensures)
