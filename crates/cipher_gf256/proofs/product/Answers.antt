use native.Mathlib.Omega.{arith}
use mathlib.Core.Path.{◌≡◌, refl, sym, ◌∙◌}
use borrow.Author.Rules.{rules}
use Prim.Native.Nat.{◌-◌, ◌+◌}
use Rattle.clefia_spec.specs.Field.{add_product, product, product_turns}
use Rattle.cipher_gf256.specs.ProductLaws.{add_product_step, add_product_last}
use Rattle.cipher_gf256.proofs.product.Goals as goal

-- no turn for the multiplier 0
pub returns-then-y-eq0 : goal.returns-then-y-eq0
unfolding add_product
returns-then-y-eq0 c = product_turns 0 _ _ (omega arith) (omega arith)

pub loop-init : goal.loop-init
unfolding product
loop-init c = (omega arith, refl)

-- the turn that removed the last set bit
pub returns-then-bits-eq0 : goal.returns-then-bits-eq0
returns-then-bits-eq0 c =
    let h = c.loop in
    rw c.add_last_bit-sum.ensures
    (sym (add_product_last (8 - h.counter) h.sum h.shifted h.bits (omega arith) (omega arith)) ∙ h.invariant.1)

pub loop-preserved : goal.loop-preserved
loop-preserved c =
    let h = c.loop in
    let left : 8 - (h.counter + 1) ≡ 8 - h.counter - 1 = omega arith in (
      search rules,
      rw (c.double-shifted.ensures, c.add_last_bit-sum.ensures, left)
          (sym (add_product_step (8 - h.counter) h.sum h.shifted h.bits (omega arith)) ∙ h.invariant.1),
    )

pub returns : goal.returns
unfolding add_product
returns c =
    let h = c.loop in
    let e : 8 - h.counter ≡ 0 = omega arith in
    rw e at h.invariant.1
