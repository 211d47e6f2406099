-- What a walk through the sheets of a book has left, and what it gives.
use Rattle.std.specs.Prelude.{List}
use Rattle.planbook_spec.specs.BookSheets.{WholeSheet, sheets_from}
use Rattle.book_sheets.specs.declared.walk.Sheets.{Sheets}
use Rattle.book_sheets.specs.declared.walk.SheetBytes.{SheetBytes}
use Rattle.book_sheets.specs.Rows.{entries_of}

abbrev pub sheets_left : Sheets → List WholeSheet
sheets_left s = sheets_from (entries_of s.entries.now) s.bodies.now

abbrev pub whole_sheet : SheetBytes → WholeSheet
whole_sheet s = record { entry = s.entry.now; body = s.body.now }
