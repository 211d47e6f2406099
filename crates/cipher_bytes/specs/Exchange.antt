-- The result of writing one block and reading another.
use Rattle.std.specs.Prelude.{ℕ, ◌≡◌, List, drop}
use Rattle.clefia_spec.specs.Words.{bytes_of, words_of}

pub record Exchanged (s src : List ℕ) (from : ℕ) (r exit : List ℕ) : Type 0 where
  pub read : r ≡ words_of 4 (drop from src)
  pub written : exit ≡ bytes_of s
