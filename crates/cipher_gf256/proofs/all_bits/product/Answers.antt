use native.Mathlib.Omega.{arith}
use mathlib.Core.Path.{◌≡◌, refl, sym, ◌∙◌}
use Prim.Native.Nat.{◌-◌, ◌+◌}
use Rattle.clefia_spec.specs.Field.{add_product, product}
use Rattle.cipher_gf256.specs.ProductLaws.{add_product_step}
use Rattle.cipher_gf256.proofs.all_bits.product.Goals as goal

pub loop-init : goal.loop-init
unfolding product
loop-init c = refl

pub loop-preserved : goal.loop-preserved
loop-preserved c =
    let h = c.loop in
    let left : 8 - (h.counter + 1) ≡ 8 - h.counter - 1 = omega arith in
    rw (c.double-shifted.ensures, c.last_bit_times-sum.ensures, left)
    (sym (add_product_step (8 - h.counter) h.sum h.shifted h.bits (omega arith)) ∙ h.invariant)

pub returns : goal.returns
unfolding add_product
returns c =
    let h = c.loop in
    let e : 8 - h.counter ≡ 0 = omega arith in
    rw e at h.invariant
