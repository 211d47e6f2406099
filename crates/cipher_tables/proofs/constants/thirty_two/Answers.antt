-- `cipher_tables::constants::thirty_two` meets its contract: the rule is computed for each word.
use mathlib.Core.Path.{refl}
use Rattle.cipher_tables.specs.ByteTableTests.{tested_constants}
use Rattle.cipher_tables.proofs.constants.thirty_two.Goals as goal

pub returns : goal.returns
unfolding tested_constants
returns c = refl
