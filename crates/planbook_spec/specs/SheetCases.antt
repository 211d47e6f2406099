-- Computed cases of a book as its sheets: the books of `AnswerCases.antt`, taken apart and made
-- again, and sheets that no book had.
use Rattle.std.specs.Prelude.{ℕ, List, [], ◌∷◌, ◌++◌, map, refl, get_or, take, drop, replicate}
use Rattle.clefia_spec.specs.Words.{from_digits, to_digits}
use Rattle.clefia_spec.specs.Cases.{Case, ◌gives◌, AllHold, all_same, computed}
use Rattle.planbook_spec.specs.Book.{number, pieces}
use Rattle.planbook_spec.specs.BookSheets.{WholeSheet, sheets_from, sheets_of, join_entries, join_bodies, book_of}
use Rattle.planbook_spec.specs.BookSheets.{on_body}
use Rattle.planbook_spec.specs.AnswerCases.{rising, entry_with, large}

-- A sheet of trial t whose body is b, whatever the entry says of it.
abbrev sheet_with : ℕ → List ℕ → WholeSheet
sheet_with t b = record { entry = entry_with t 1 t; body = b }

-- The entry and the body of sheet i, where there is one, and else the numbers 7 and 8.
abbrev entry_in : ℕ → List WholeSheet → List ℕ
entry_in i ss = (get_or ss i (record { entry = 7 ∷ []; body = 8 ∷ [] })).entry

abbrev body_in : ℕ → List WholeSheet → List ℕ
body_in i ss = (get_or ss i (record { entry = 7 ∷ []; body = 8 ∷ [] })).body

-- A function of the entry and the body: the first byte of the iv, and then the body.
abbrev marked : List ℕ → List ℕ → List ℕ
marked e b = get_or e 8 0 ∷ b

pub sheet_cases : List Case
sheet_cases =
    -- the sheets of the book of two, and none after them
    (entry_in 0 (sheets_of large) gives entry_with 41 2 0x10)
    ∷ (entry_in 1 (sheets_of large) gives entry_with 42 1 0x20)
    ∷ (entry_in 2 (sheets_of large) gives 7 ∷ [])
    ∷ (body_in 0 (sheets_of large) gives take 32 (drop 52 large))
    ∷ (body_in 1 (sheets_of large) gives drop 84 large)
    -- it is made again, and with another kind
    ∷ (book_of 1 (sheets_of large) gives large)
    ∷ (book_of 2 (sheets_of large) gives 2 ∷ drop 1 large)
    -- no sheets; entries before bodies, each in order; 258 sheets in two bytes
    ∷ (book_of 1 [] gives 1 ∷ 0 ∷ 0 ∷ 0 ∷ [])
    ∷ (book_of 1 (sheet_with 3 (9 ∷ 8 ∷ []) ∷ sheet_with 4 (7 ∷ []) ∷ []) gives
    1 ∷ 0 ∷ 0 ∷ 2 ∷ entry_with 3 1 3 ++ entry_with 4 1 4 ++ (9 ∷ 8 ∷ 7 ∷ []))
    ∷ (take 4 (book_of 2 (replicate 258 (sheet_with 3 []))) gives 2 ∷ 0 ∷ 1 ∷ 2 ∷ [])
    -- a function of each entry and body: the entry stays
    ∷ (body_in 1 (map (on_body marked) (sheets_of large)) gives 0x20 ∷ drop 84 large)
    ∷ (join_entries (map (on_body marked) (sheets_of large)) gives take 48 (drop 4 large))
    ∷ []

pub sheet_cases_hold : AllHold sheet_cases
unfolding sheet_cases all_same rising from_digits to_digits number pieces sheets_from join_entries join_bodies book_of
sheet_cases_hold = computed sheet_cases refl
