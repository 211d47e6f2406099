use native.Mathlib.Nat.{div-one}
use Rattle.clefia_spec.specs.Words.{to_digits}
use Rattle.clefia_spec.specs.FFunction.{substitute}
use Rattle.cipher_ffunction.proofs.substitute.Goals as goal

pub returns : goal.returns
unfolding to_digits substitute
returns g c = cc (div-one c.args.z)
