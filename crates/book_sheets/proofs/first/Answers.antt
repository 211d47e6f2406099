use Rattle.book_sheets.specs.Cursors.{at_first}
use Rattle.book_sheets.proofs.first.Goals as goal

pub returns : goal.returns
returns c = at_first c.requires (rw c.u16_at-left.ensures)
