use native.Mathlib.Omega.{arith}
use Rattle.cipher_gf256.specs.ProductLaws.{bit_times_le}
use Rattle.cipher_gf256.proofs.last_bit_times.Goals as goal

pub overflow_mul-result : goal.overflow_mul-result
overflow_mul-result c = omega (arith, bit_times_le c.args.y c.args.x)
