-- `cipher_sbox::rules::double_four_bits` meets its contract: both ways of doubling are computed at
-- each number of four bits.
use Prim.Native.Nat.{◌*◌, ◌/◌, ◌%◌}
use native.Mathlib.Omega.{arith}
use lib.Bits.{xor_lt}
use Rattle.clefia_spec.specs.Words.{◌⊕◌}
use Rattle.clefia_spec.specs.Field.{double, double4}
use Rattle.clefia_laws.specs.FieldLaws.{agree}
use Rattle.cipher_sbox.proofs.rules.double_four_bits.Goals as goal

pub returns : goal.returns
unfolding double
returns c =
    let x = c.args.x in
    record {
      right = agree (λ n. n / 8 * 3 ⊕ n % 8 * 2) double4 16 tt x c.requires;
      small = xor_lt 4 (x / 8 * 3) (x % 8 * 2) (omega arith) (omega arith);
    }
