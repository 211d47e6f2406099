-- What a call comes to: it is refused under the number of a check, or accepted with a count and the
-- bytes that the given output then holds.
use Rattle.std.specs.Prelude.{ℕ, ◌*◌, ◌^◌, Bool, true, false, List, [], ◌∷◌, ◌≡◌}

pub data Outcome : Type 0 where
  refused : ℕ → Outcome
  accepted : ℕ → List ℕ → Outcome

-- The one number that C receives: the number of the failed check times 2 ^ 32, with a count of 0;
-- or 0 times 2 ^ 32 and the count.
unfoldable pub answer : Outcome → ℕ
answer (refused c) = c * 2 ^ 32
answer (accepted n bs) = n

-- The output afterwards: after a refusal every byte is what it was at entry.
unfoldable pub after : List ℕ → Outcome → List ℕ
after out (refused c) = out
after out (accepted n bs) = bs

-- What a call's contract states of its number r and of the output at exit, both by equation, for
-- any outcome.
pub record Answers (o : Outcome) (out : List ℕ) (r : ℕ) (exit : List ℕ) : Type 0 where
  pub number : r ≡ answer o
  pub output : exit ≡ after out o

-- A check is its number and whether it is passed.
pub data Check : Type 0 where
  check : ℕ → Bool → Check

-- A call's checks are tried in order: the first that fails refuses the call under its number. Where
-- none fails the outcome is o.
unfoldable pub judged : List Check → Outcome → Outcome
judged [] o = o
judged (check c true ∷ cs) o = judged cs o
judged (check c false ∷ cs) o = refused c
