-- `cipher_gf256::all_bits::product` meets its contract. The loop's invariant: the sum, with the
-- shifted factor times the bits that are left, is the product.
use Prim.Native.Nat.{◌-◌}
use mathlib.Core.Path.{◌≡◌}
use Rattle.clefia_spec.specs.Field.{add_product, product}
use Rattle.cipher_gf256.proofs.all_bits.product.Given as goal

abbrev pub invariant-loop : goal.invariant-loop
invariant-loop l = add_product (8 - l.counter) l.sum l.shifted l.bits ≡ product l.x l.y
