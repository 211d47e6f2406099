-- What an answer means: a count, or the number of the first check that failed; and the outcome that
-- it means.
use Rattle.std.specs.Prelude.{ℕ, ◌*◌, ◌^◌, List, ◌≡◌, refl, Result, Ok, Err}
use Rattle.std.proofs.Common.{sym, ap, ◌∙◌}
use Rattle.planbook_spec.specs.Outcome.{Outcome, refused, accepted, answer, after, Answers}
use Rattle.call_answer.specs.declared.Check.{Check}
use Rattle.call_answer.specs.declared.Check.TheVariants.{KeyLength, Way, BlockLength, OutputLength, BookLength, BookKind}
use Rattle.call_answer.specs.declared.Check.TheVariants.{Sheets, ContentsCut, Entry, BodyLength, Record, NoteLength}
use Rattle.call_answer.specs.declared.Check.TheVariants.{SheetIndex, WordsLength}

-- The numbers of the checks, as the C header has them.
abbrev pub check_number : Check → ℕ
check_number KeyLength = 1
check_number Way = 2
check_number BlockLength = 3
check_number OutputLength = 4
check_number BookLength = 5
check_number BookKind = 6
check_number Sheets = 7
check_number ContentsCut = 8
check_number Entry = 9
check_number BodyLength = 10
check_number Record = 11
check_number NoteLength = 12
check_number SheetIndex = 13
check_number WordsLength = 14

-- An answer of the code, with the number of its check.
abbrev pub numbered : Result ℕ Check → Result ℕ ℕ
numbered (Ok count) = Ok count
numbered (Err check) = Err (check_number check)

-- The count of an accepted call; the number of the failed check times 2 ^ 32, with a count of 0.
abbrev pub number_of : Result ℕ ℕ → ℕ
number_of (Ok count) = count
number_of (Err check) = check * 2 ^ 32

-- The answer that an outcome has.
abbrev pub answer_of : Outcome → Result ℕ ℕ
answer_of (refused c) = Err c
answer_of (accepted n bs) = Ok n

pub number_answer_of : (o : Outcome) → number_of (answer_of o) ≡ answer o
unfolding answer
number_answer_of (refused c) = refl
number_answer_of (accepted n bs) = refl

-- What a call's contract states of its answer r and of the output at exit, both by equation, for
-- any outcome.
pub record Answered (o : Outcome) (out : List ℕ) (r : Result ℕ ℕ) (exit : List ℕ) : Type 0 where
  pub case : r ≡ answer_of o
  pub output : exit ≡ after out o

-- It pins both: two answers to one outcome, with one output at entry, are equal.
pub answered_equal : {o : Outcome} {out : List ℕ} {r r' : Result ℕ ℕ} {exit exit' : List ℕ} → Answered o out r exit
    → Answered o out r' exit' → (r ≡ r') × (exit ≡ exit')
answered_equal g h = (g.case ∙ sym h.case, g.output ∙ sym h.output)

-- The same with the number in place of the case: what the border to C states.
pub answers : {o : Outcome} {out : List ℕ} {r : Result ℕ ℕ} {exit : List ℕ} {n : ℕ} → Answered o out r exit
    → n ≡ number_of r
    → Answers o out n exit
answers {o} g e = record { number = e ∙ ap number_of g.case ∙ number_answer_of o; output = g.output }
