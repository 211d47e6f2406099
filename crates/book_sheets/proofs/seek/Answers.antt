use Rattle.book_sheets.specs.Cursors.{reached_first, reached_next}
use Rattle.book_sheets.proofs.seek.Goals as goal

pub loop-init : goal.loop-init
loop-init c = reached_first c.first-cursor.ensures

pub loop-preserved : goal.loop-preserved
loop-preserved c = reached_next c.loop.invariant c.next-cursor.ensures
