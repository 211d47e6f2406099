-- `cipher_tables::constants::twenty_four` meets its contract: the rule is computed for each word.
use mathlib.Core.Path.{refl}
use Rattle.cipher_tables.specs.ByteTableTests.{tested_constants}
use Rattle.cipher_tables.proofs.constants.twenty_four.Goals as goal

pub returns : goal.returns
unfolding tested_constants
returns c = refl
