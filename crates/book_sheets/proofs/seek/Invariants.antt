-- `book_sheets::seek` meets its contract: the cursor has come to the sheet that the turns count.
use Rattle.book_sheets.specs.Cursors.{Reached}
use Rattle.book_sheets.proofs.seek.Given as goal

abbrev pub invariant-loop : goal.invariant-loop
invariant-loop l = Reached l.book l.counter l.cursor
