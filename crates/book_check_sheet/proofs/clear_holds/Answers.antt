use Rattle.book_check_sheet.proofs.clear_holds.Goals as goal

pub returns : goal.returns
returns c e h = rw c.xors4.ensures at (c.record_holds.ensures e h)
