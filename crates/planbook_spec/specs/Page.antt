-- The planting page of a sheet, and what the call for it answers. It is text, to be pinned at a
-- bench: a heading, and a line for each record in the order of the body. Every line has 31
-- characters, each of them a byte below 128 (ASCII), and a line feed.
use Rattle.std.specs.Prelude.{ℕ, zero, suc, ◌+◌, ◌-◌, ◌*◌, ◌/◌, ◌%◌, List, [], ◌∷◌, ◌++◌, ltb, length}
use Rattle.clefia_spec.specs.Words.{choose}
use Rattle.planbook_spec.specs.Outcome.{Outcome, accepted, Check, check, judged}
use Rattle.planbook_spec.specs.Checks.{output_check}
use Rattle.planbook_spec.specs.Book.{pieces, count, record_trial, record_entry, record_replicate, record_row}
use Rattle.planbook_spec.specs.Book.{record_column, sheet_count, sheet_entry, sheet_body, as_it_is, form_and_records}

-- The decimal digits of a number below 10 ^ k, the highest first, without leading zeros; 0 is one
-- digit. (Of a greater number the last k digits.) The digit 0 is the character 48.
unfoldable pub decimal : ℕ → ℕ → List ℕ
decimal zero n = []
decimal (suc k) n = choose (ltb n 10) [] (decimal k (n / 10)) ++ ((48 + n % 10) ∷ [])

-- Spaces, the character 32.
unfoldable pub spaces : ℕ → List ℕ
spaces zero = []
spaces (suc n) = 32 ∷ spaces n

-- A text at the right of a field of w characters, with spaces before it.
unfoldable pub right_aligned : ℕ → List ℕ → List ℕ
right_aligned w text = spaces (w - length text) ++ text

-- A number in a field of w characters.
abbrev pub number_field : ℕ → ℕ → List ℕ
number_field w n = right_aligned w (decimal w n)

-- A line: five fields, a space between any two of them, and a line feed, the character 10.
abbrev pub fields : List ℕ → List ℕ → List ℕ → List ℕ → List ℕ → List ℕ
fields a b c d e = a ++ (32 ∷ b ++ (32 ∷ c ++ (32 ∷ d ++ (32 ∷ e ++ (10 ∷ [])))))

-- The words TRIAL, ENTRY, R, ROW and COL over the fields.
unfoldable pub heading : List ℕ
heading =
    fields (right_aligned 10 (84 ∷ 82 ∷ 73 ∷ 65 ∷ 76 ∷ []))
    (right_aligned 10 (69 ∷ 78 ∷ 84 ∷ 82 ∷ 89 ∷ []))
    (right_aligned 1 (82 ∷ []))
    (right_aligned 3 (82 ∷ 79 ∷ 87 ∷ []))
    (right_aligned 3 (67 ∷ 79 ∷ 76 ∷ []))

-- A record: trial, entry, replicate, row and column. Row and column of one in reserve are 0, and
-- are shown so.
unfoldable pub line : List ℕ → List ℕ
line r =
    fields (number_field 10 (record_trial r))
    (number_field 10 (record_entry r))
    (number_field 1 (record_replicate r))
    (number_field 3 (record_row r))
    (number_field 3 (record_column r))

unfoldable pub lines : List (List ℕ) → List ℕ
lines [] = []
lines (r ∷ rs) = line r ++ lines rs

-- The page of sheet i, counted from 0, and how many lines it has, the heading included.
unfoldable pub page : ℕ → List ℕ → List ℕ
page i book = heading ++ lines (pieces 16 (count (sheet_entry i book)) (sheet_body i book))

abbrev pub line_count : ℕ → List ℕ → ℕ
line_count i book = count (sheet_entry i book) + 1

-- Check 13: the book has a sheet of this index.
unfoldable pub sheet_check : ℕ → List ℕ → Check
sheet_check i book = check 13 (ltb i (sheet_count book))

-- The checks of the call: 5 to 11 of a clear book, of all its sheets, then 13, and 4 last, since
-- only a sheet that exists has a page whose length is known.
unfoldable pub page_checks : List ℕ → ℕ → List ℕ → List Check
page_checks book i out =
    form_and_records 1 as_it_is book ++ (sheet_check i book ∷ output_check (32 * line_count i book) out ∷ [])

-- The page of a clear book: the count is that of its lines.
unfoldable pub page_call : List ℕ → ℕ → List ℕ → Outcome
page_call book i out = judged (page_checks book i out) (accepted (line_count i book) (page i book))
