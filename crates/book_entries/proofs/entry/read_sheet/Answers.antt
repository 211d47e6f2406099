use Rattle.planbook_spec.specs.Book.{number}
use Rattle.book_entries.proofs.entry.read_sheet.Goals as goal

pub returns : goal.returns
unfolding number
returns c = rw (c.word.ensures, c.u16_at.ensures, c.read_replicates.ensures)
