-- What the entry reader answers: the sheet that an entry describes, and whether there is one.
use Rattle.std.specs.Prelude.{ℕ, List, Option, Some, None}
use Rattle.clefia_spec.specs.Words.{choose}
use Rattle.planbook_spec.specs.Book.{trial, count, replicates, entry_holds}
use Rattle.book_entries.specs.declared.entry.Sheet.{Sheet}

abbrev pub sheet_of : List ℕ → Sheet
sheet_of e = record { trial = trial e; count = count e; replicates = replicates e }

abbrev pub entry_of : ℕ → List ℕ → Option Sheet
entry_of previous e = choose (entry_holds previous e) (Some (sheet_of e)) None
