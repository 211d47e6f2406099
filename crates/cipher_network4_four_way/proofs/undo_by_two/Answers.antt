use Rattle.std.specs.Prelude.{◌+◌, ◌-◌, ◌*◌, ◌≡◌}
use Rattle.std.proofs.Common.{refl, arith}
use Rattle.clefia_spec.specs.Network.{undo_rounds}
use Rattle.cipher_network4_four_way.specs.Four.{each_same, two_more_undone}
use Rattle.cipher_network4_four_way.proofs.undo_by_two.Goals as goal

pub loop-i-init : goal.loop-i-init
unfolding undo_rounds
loop-i-init g c = let z : c.args.n - c.args.n ≡ 0 = omega arith in rw z refl

pub loop-i-preserved : goal.loop-i-preserved
loop-i-preserved g c =
    let a = c.args in
    let i = c.loop-i.i - 1 in
    let e : a.n - i ≡ a.n - c.loop-i.i + 1 = omega arith in
    let k : a.at + 4 * c.loop-i.i ≡ a.at + 4 * i + 4 = omega arith in
    rw (c.undo_two_rounds-t.ensures, c.loop-i.invariant, e)
    (each_same (λ s. two_more_undone (a.n - c.loop-i.i) a.expanded.now (a.at + 4 * i) (a.at + 4 * c.loop-i.i) s k) a.s)

pub returns : goal.returns
returns g c =
    let z : c.loop-i.i ≡ 0 = omega arith in
    let n : c.args.n - 0 ≡ c.args.n = omega arith in
    let k : c.args.at + 4 * 0 ≡ c.args.at = omega arith in
    rw (z, n, k) at c.loop-i.invariant
