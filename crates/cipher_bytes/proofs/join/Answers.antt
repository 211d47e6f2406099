use native.Mathlib.Omega.{arith}
use Rattle.clefia_spec.specs.Words.{from_digits}
use Rattle.cipher_bytes.proofs.join.Goals as goal

pub returns : goal.returns
unfolding from_digits
returns c = omega arith
