-- The test of the three tables of constants.
use Rattle.std.specs.Prelude.{ℕ, List}
use Rattle.clefia_spec.specs.Words.{complement, rotate}
use Rattle.clefia_spec.specs.Constants.{divide_by_z, even_constant, odd_constant, constants_from, first_t, constants}

-- The constants of a key length. Unfolding this unfolds all that they are computed with.
unfoldable pub tested_constants : ℕ → List ℕ
unfolding complement rotate divide_by_z even_constant odd_constant constants_from first_t constants
tested_constants = constants
