-- Check 11 sheet by sheet, by the iterator over the sheets and by a cursor. f makes a body clear.
use Rattle.std.specs.Prelude.{refl, ℕ, ◌*◌, ◌<◌, ◌≡◌, Bool, true, false, List, [], ◌∷◌, drop}
use Rattle.std.specs.List.{list_all}
use Rattle.std.proofs.Common.{sym, ◌∙◌}
use Rattle.planbook_spec.specs.Book.{count, pieces, sheet_holds, contents, bodies, sheets_hold}
use Rattle.planbook_spec.specs.BookSheets.{WholeSheet, sheets_from}
use Rattle.planbook_laws.specs.WalkLaws.{sheets_next, bodies_at}
use Rattle.book_sheets.specs.declared.Cursor.{Cursor}
use Rattle.book_sheets.specs.Cursors.{entry_at, body_at, Placed, First, Next}

-- Every record of a sheet holds.
abbrev pub sheet_tested : (List ℕ → List ℕ → List ℕ) → WholeSheet → Bool
sheet_tested f s = sheet_holds s.entry (f s.entry s.body)

-- Each sheet looked at is all of them.
pub all_tested : (f : List ℕ → List ℕ → List ℕ) (es : List (List ℕ)) (bs : List ℕ)
    → list_all (sheet_tested f) (sheets_from es bs) ≡ sheets_hold f es bs
unfolding sheets_from sheets_hold
all_tested f [] bs = refl
all_tested f (e ∷ es) bs = rw (all_tested f es (drop (16 * count e) bs))

-- The records of the sheets before a cursor hold.
pub record Tested (f : List ℕ → List ℕ → List ℕ) (book : List ℕ) (c : Cursor) : Type 0 where
  pub placed : Placed book c
  pub tested : sheets_hold f (pieces 24 c.left (drop c.from book)) (drop c.at book)
      ≡ sheets_hold f (contents book) (bodies book)

module _ (f : List ℕ → List ℕ → List ℕ) {book : List ℕ} {c : Cursor} where
  pub tested_first : First book c → Tested f book c
  tested_first i = record { placed = i.placed; tested = rw (i.is, bodies_at book) }

  module _ (t : Tested f book c) where
    pub tested_broken : 0 < c.left → sheet_holds (entry_at book c) (f (entry_at book c) (body_at book c)) ≡ false
        → false ≡ sheets_hold f (contents book) (bodies book)
    tested_broken h e = sym (sheets_next f c.left c.from c.at book h e) ∙ t.tested

    pub tested_next : {n : Cursor} → Next book c n → 0 < c.left
        → sheet_holds (entry_at book c) (f (entry_at book c) (body_at book c)) ≡ true → Tested f book n
    tested_next s h e = record {
      placed = s.placed;
      tested =
          rw s.is (sym (sheets_next f c.left c.from c.at book h e) ∙ t.tested);
    }

    pub tested_end : c.left ≡ 0 → true ≡ sheets_hold f (contents book) (bodies book)
    unfolding sheets_hold pieces
    tested_end z = rw z at t.tested
