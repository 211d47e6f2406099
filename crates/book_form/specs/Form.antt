-- What each group of a book's checks answers: the first of them that fails, or a count.
use Rattle.std.specs.Prelude.{ℕ, List, [], take, drop, Result}
use Rattle.call_answer.specs.Answer.{answer_of}
use Rattle.planbook_spec.specs.Outcome.{accepted, judged}
use Rattle.planbook_spec.specs.Book.{sheet_count, contents, record_count, form_checks}

-- Checks 5 to 8; the count is the number of sheets.
abbrev pub head_answer : ℕ → List ℕ → Result ℕ ℕ
head_answer kind book = answer_of (judged (take 4 (form_checks kind book)) (accepted (sheet_count book) []))

-- Checks 9 and 10, which do not look at the kind.
abbrev pub contents_answer : List ℕ → Result ℕ ℕ
contents_answer book = answer_of (judged (drop 4 (form_checks 0 book)) (accepted (record_count (contents book)) []))

-- Checks 5 to 10.
abbrev pub form_answer : ℕ → List ℕ → Result ℕ ℕ
form_answer kind book = answer_of (judged (form_checks kind book) (accepted (record_count (contents book)) []))
