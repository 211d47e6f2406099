-- Computed cases: planting pages as bytes, and the edges of the call's checks. That a page shows
-- its whole sheet does not reveal a slip in how: a line with row and column exchanged shows as
-- much. These cases do.
use Rattle.std.specs.Prelude.{ℕ, ◌-◌, ◌*◌, ◌^◌, List, [], ◌∷◌, ◌++◌, refl, take, set, replicate}
use Rattle.std.proofs.lemmas.List.Edits.{sets}
use Rattle.clefia_spec.specs.Words.{from_digits, to_digits}
use Rattle.clefia_spec.specs.Cases.{Case, ◌gives◌, AllHold, all_same, computed}
use Rattle.planbook_spec.specs.Outcome.{answer, after, judged}
use Rattle.planbook_spec.specs.Checks.{output_check}
use Rattle.planbook_spec.specs.Book.{number, pieces, replicates, entry_holds, entries_hold, plot_holds, record_holds}
use Rattle.planbook_spec.specs.Book.{all_records_hold, record_count, sheet_entry, sheet_body, form_checks, sheets_hold}
use Rattle.planbook_spec.specs.Book.{records_check}
use Rattle.planbook_spec.specs.Page.{decimal, spaces, right_aligned, number_field, heading, line, lines, page}
use Rattle.planbook_spec.specs.Page.{sheet_check, page_checks, page_call}
use Rattle.planbook_spec.specs.AnswerCases.{rising, entry_with, small, large, plot}

-- The book of the example: one record, of trial 41, entry 7, replicate 2, row 12 and column 3.
abbrev pub example : List ℕ
example = sets small 37 (plot 12 3)

-- The greatest of each number: trial and entry 4294967295, replicate 8, row and column 999.
abbrev pub greatest : List ℕ
greatest = sets (sets (set small 10 8) 4 (replicate 4 255)) 28 (replicate 8 255 ++ (8 ∷ plot 999 999))

-- The contents of three sheets, of two records, one and one, and bodies whose bytes all differ.
abbrev pub three : List ℕ
three = 1 ∷ 0 ∷ 0 ∷ 3 ∷ entry_with 41 2 0x10 ++ entry_with 42 1 0x20 ++ entry_with 43 1 0x30 ++ rising 64 0x80

-- The call's answer, and its output where m bytes are passed.
abbrev pub paged : List ℕ → ℕ → ℕ → ℕ
paged book i m = answer (page_call book i (replicate m 0))

abbrev pub shown : List ℕ → ℕ → ℕ → List ℕ
shown book i m = paged book i m ∷ after (replicate m 0) (page_call book i (replicate m 0))

-- "     TRIAL      ENTRY R ROW COL"
abbrev pub heading_bytes : List ℕ
heading_bytes =
    (0x20 ∷ 0x20 ∷ 0x20 ∷ 0x20 ∷ 0x20 ∷ 0x54 ∷ 0x52 ∷ 0x49 ∷ 0x41 ∷ 0x4c ∷ 0x20 ∷ 0x20 ∷ 0x20 ∷ 0x20 ∷ 0x20 ∷ 0x20 ∷ [])
    ++ (0x45 ∷ 0x4e ∷ 0x54 ∷ 0x52 ∷ 0x59 ∷ 0x20 ∷ 0x52 ∷ 0x20 ∷ 0x52 ∷ 0x4f ∷ 0x57 ∷ 0x20 ∷ 0x43 ∷ 0x4f ∷ 0x4c ∷ 0x0a
    ∷ [])

-- "        41          7 2  12   3"
abbrev pub example_bytes : List ℕ
example_bytes =
    (0x20 ∷ 0x20 ∷ 0x20 ∷ 0x20 ∷ 0x20 ∷ 0x20 ∷ 0x20 ∷ 0x20 ∷ 0x34 ∷ 0x31 ∷ 0x20 ∷ 0x20 ∷ 0x20 ∷ 0x20 ∷ 0x20 ∷ 0x20 ∷ [])
    ++ (0x20 ∷ 0x20 ∷ 0x20 ∷ 0x20 ∷ 0x37 ∷ 0x20 ∷ 0x32 ∷ 0x20 ∷ 0x20 ∷ 0x31 ∷ 0x32 ∷ 0x20 ∷ 0x20 ∷ 0x20 ∷ 0x33 ∷ 0x0a
    ∷ [])

-- "        41          8 4 999 999"
abbrev pub second_bytes : List ℕ
second_bytes =
    (0x20 ∷ 0x20 ∷ 0x20 ∷ 0x20 ∷ 0x20 ∷ 0x20 ∷ 0x20 ∷ 0x20 ∷ 0x34 ∷ 0x31 ∷ 0x20 ∷ 0x20 ∷ 0x20 ∷ 0x20 ∷ 0x20 ∷ 0x20 ∷ [])
    ++ (0x20 ∷ 0x20 ∷ 0x20 ∷ 0x20 ∷ 0x38 ∷ 0x20 ∷ 0x34 ∷ 0x20 ∷ 0x39 ∷ 0x39 ∷ 0x39 ∷ 0x20 ∷ 0x39 ∷ 0x39 ∷ 0x39 ∷ 0x0a
    ∷ [])

-- "        42          7 1   0   0"
abbrev pub reserve_bytes : List ℕ
reserve_bytes =
    (0x20 ∷ 0x20 ∷ 0x20 ∷ 0x20 ∷ 0x20 ∷ 0x20 ∷ 0x20 ∷ 0x20 ∷ 0x34 ∷ 0x32 ∷ 0x20 ∷ 0x20 ∷ 0x20 ∷ 0x20 ∷ 0x20 ∷ 0x20 ∷ [])
    ++ (0x20 ∷ 0x20 ∷ 0x20 ∷ 0x20 ∷ 0x37 ∷ 0x20 ∷ 0x31 ∷ 0x20 ∷ 0x20 ∷ 0x20 ∷ 0x30 ∷ 0x20 ∷ 0x20 ∷ 0x20 ∷ 0x30 ∷ 0x0a
    ∷ [])

-- "4294967295 4294967295 8 999 999"
abbrev pub greatest_bytes : List ℕ
greatest_bytes =
    (0x34 ∷ 0x32 ∷ 0x39 ∷ 0x34 ∷ 0x39 ∷ 0x36 ∷ 0x37 ∷ 0x32 ∷ 0x39 ∷ 0x35 ∷ 0x20 ∷ 0x34 ∷ 0x32 ∷ 0x39 ∷ 0x34 ∷ 0x39 ∷ [])
    ++ (0x36 ∷ 0x37 ∷ 0x32 ∷ 0x39 ∷ 0x35 ∷ 0x20 ∷ 0x38 ∷ 0x20 ∷ 0x39 ∷ 0x39 ∷ 0x39 ∷ 0x20 ∷ 0x39 ∷ 0x39 ∷ 0x39 ∷ 0x0a
    ∷ [])

pub page_cases : List Case
page_cases =
    (shown example 0 64 gives 2 ∷ heading_bytes ++ example_bytes)
    ∷ (shown greatest 0 64 gives 2 ∷ heading_bytes ++ greatest_bytes)
    -- two sheets: the records of the first in their order; one in reserve
    ∷ (shown large 0 96 gives 3 ∷ heading_bytes ++ example_bytes ++ second_bytes)
    ∷ (shown large 1 64 gives 2 ∷ heading_bytes ++ reserve_bytes)
    -- the entry of a sheet, and its body
    ∷ (sheet_entry 0 three ++ sheet_entry 2 three gives entry_with 41 2 0x10 ++ entry_with 43 1 0x30)
    ∷ (sheet_body 0 three gives rising 32 0x80)
    ∷ (sheet_body 1 three gives rising 16 0xa0)
    ∷ (sheet_body 2 three gives rising 16 0xb0)
    -- digits: 0; 9 and 10; zeros within and at the end; the greatest number of nine digits, and the
    -- least of ten
    ∷ (decimal 10 0 ++ (0 ∷ decimal 10 9) ++ (0 ∷ decimal 10 10) ++ (0 ∷ decimal 3 100) ++ (0 ∷ decimal 3 101)
    gives 0x30 ∷ 0 ∷ 0x39 ∷ 0 ∷ 0x31 ∷ 0x30 ∷ 0 ∷ 0x31 ∷ 0x30 ∷ 0x30 ∷ 0 ∷ 0x31 ∷ 0x30 ∷ 0x31 ∷ [])
    ∷ (decimal 10 999999999 gives replicate 9 0x39)
    ∷ (decimal 10 1000000000 gives 0x31 ∷ replicate 9 0x30)
    -- of a number that does not fit, which no record has, the last digits
    ∷ (decimal 2 345 gives 0x34 ∷ 0x35 ∷ [])
    -- fields of three: of one digit, of two and of three; and one of a single character
    ∷ (number_field 3 0 ++ number_field 3 9 ++ number_field 3 10 ++ number_field 3 99 ++ number_field 3 100
    gives 0x20 ∷ 0x20 ∷ 0x30 ∷ 0x20 ∷ 0x20 ∷ 0x39 ∷ 0x20 ∷ 0x31 ∷ 0x30 ∷ 0x20 ∷ 0x39 ∷ 0x39 ∷ 0x31 ∷ 0x30 ∷ 0x30 ∷ [])
    ∷ (number_field 1 0 ++ number_field 1 8 gives 0x30 ∷ 0x38 ∷ [])
    ∷ []

pub page_cases_hold : AllHold page_cases
unfolding page_cases rising all_same from_digits to_digits answer after judged output_check number pieces replicates
    entry_holds entries_hold plot_holds record_holds all_records_hold record_count form_checks sheets_hold
    records_check decimal spaces right_aligned heading line lines page sheet_check page_checks page_call
page_cases_hold = computed page_cases refl

-- An index that no book has a sheet of.
abbrev pub beyond : ℕ
beyond = 2 ^ 64 - 1

-- Checks 5 to 11, 13 and 4. Each of the first seven has a case where 13 and 4 fail too.
pub page_check_cases : List Case
page_check_cases =
    (paged (1 ∷ 0 ∷ 0 ∷ []) beyond 0 ∷ paged (replicate 65533 1) beyond 0 ∷ paged (replicate 65532 1) beyond 0
    ∷ [] gives 5 * 2 ^ 32 ∷ 5 * 2 ^ 32 ∷ 6 * 2 ^ 32 ∷ [])
    -- a sealed book; the second byte; 65 sheets; contents that are cut
    ∷ (paged (set large 0 2) beyond 0 ∷ paged (set large 1 1) beyond 0 ∷ paged (set large 3 65) beyond 0
    ∷ paged (take 51 large) beyond 0 ∷ []
    gives 6 * 2 ^ 32 ∷ 6 * 2 ^ 32 ∷ 7 * 2 ^ 32 ∷ 8 * 2 ^ 32 ∷ [])
    -- trials that do not rise; a byte too few, and one too many
    ∷ (paged (set large 31 41) beyond 0 ∷ paged (take 99 large) beyond 0 ∷ paged (large ++ (0 ∷ [])) beyond 0
    ∷ [] gives 9 * 2 ^ 32 ∷ 10 * 2 ^ 32 ∷ 10 * 2 ^ 32 ∷ [])
    -- 11 before 13, in either sheet; and of the whole book, whichever sheet is asked for
    ∷ (paged (set large 60 0) beyond 0 ∷ paged (set large 92 0) beyond 0 ∷ [] gives 11 * 2 ^ 32 ∷ 11 * 2 ^ 32 ∷ [])
    ∷ (paged (set large 92 0) 0 96 ∷ paged (set large 60 0) 1 64 ∷ paged (set large 76 0) 1 64 ∷ [] gives 11 * 2 ^ 32
    ∷ 11 * 2 ^ 32 ∷ 11 * 2 ^ 32 ∷ [])
    -- check 13: of a book of no sheets, of two; compared whole; before 4
    ∷ (paged (1 ∷ 0 ∷ 0 ∷ 0 ∷ []) 0 32 ∷ paged large 2 32 ∷ paged large 2 64 ∷ paged large 3 0 ∷ paged large (2 ^ 32) 96
    ∷ paged large beyond 96 ∷ []
    gives replicate 6 (13 * 2 ^ 32))
    -- check 4: a byte too few, a byte too many, no heading, a line more, the length of the other
    -- sheet
    ∷ (paged large 0 95 ∷ paged large 0 97 ∷ paged large 0 64 ∷ paged large 0 128 ∷ paged large 1 96 ∷ paged large 1 0
    ∷ [] gives replicate 6 (4 * 2 ^ 32))
    -- a refused call leaves the output as it was
    ∷ (shown large 2 3 ++ shown (set large 92 0) 0 2 ++ shown large 1 1 gives 13 * 2 ^ 32 ∷ 0 ∷ 0 ∷ 0 ∷ 11 * 2 ^ 32 ∷ 0
    ∷ 0 ∷ 4 * 2 ^ 32 ∷ 0 ∷ [])
    ∷ []

pub page_check_cases_hold : AllHold page_check_cases
unfolding page_check_cases rising all_same from_digits to_digits answer after judged output_check number pieces
    replicates entry_holds entries_hold plot_holds record_holds all_records_hold record_count form_checks sheets_hold
    records_check sheet_check page_checks page_call
page_check_cases_hold = computed page_check_cases refl
