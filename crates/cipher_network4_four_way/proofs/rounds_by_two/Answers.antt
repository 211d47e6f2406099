use Rattle.std.specs.Prelude.{◌+◌, ◌-◌, ◌*◌, ◌≡◌}
use Rattle.std.proofs.Common.{◌∙◌, arith}
use Rattle.clefia_spec.specs.Network.{rounds}
use Rattle.cipher_network4_four_way.specs.Four.{each_same, two_more}
use Rattle.cipher_network4_four_way.proofs.rounds_by_two.Goals as goal

pub loop-i-preserved : goal.loop-i-preserved
loop-i-preserved g c =
    let a = c.args in
    let i = c.loop-i.i in
    let e : a.n - (i + 1) ≡ a.n - i - 1 = omega arith in
    let k : a.at + 4 * (i + 1) ≡ a.at + 4 * i + 4 = omega arith in
    rw (c.two_rounds-t.ensures, e, k)
    (each_same (λ s. two_more (a.n - i) a.expanded.now (a.at + 4 * i) s (omega arith)) c.loop-i.t ∙ c.loop-i.invariant)

pub returns : goal.returns
unfolding rounds
returns g c =
    let z : c.args.n - c.loop-i.i ≡ 0 = omega arith in
    rw z at c.loop-i.invariant
