use Rattle.std.specs.Prelude.{◌+◌, ◌-◌, ◌*◌, ◌/◌, ◌≡◌}
use Rattle.std.proofs.Common.{◌∙◌, refl, ap, arith}
use Rattle.clefia_spec.specs.FFunction.{f0, f1}
use Rattle.clefia_spec.specs.Network.{undo_rounds, inverse_network}
use Rattle.cipher_network.specs.RoundLaws.{undo_step, next_keys}
use Rattle.cipher_network.proofs.inverse_network.Goals as goal

pub loop-i-init : goal.loop-i-init
unfolding undo_rounds
loop-i-init g c = let z : c.args.n - c.args.n ≡ 0 = omega arith in rw z refl

pub loop-i-preserved : goal.loop-i-preserved
loop-i-preserved g c =
    let a = c.args in
    let i = c.loop-i.i - 1 in
    let p = g.row.N / 2 in
    let e : a.n - i ≡ a.n - c.loop-i.i + 1 = omega arith in
    let k : c.loop-i.i ≡ i + 1 = omega arith in
    let later : a.at + p * c.loop-i.i ≡ a.at + p * i + p = ap (λ j. a.at + p * j) k ∙ next_keys a.at p i in
    rw (c.feistel-t.ensures, c.rotate_right.ensures, c.loop-i.invariant, e)
    (undo_step p f0 f1 (a.n - c.loop-i.i) a.expanded.now (a.at + p * i) (a.at + p * c.loop-i.i) _ later)

pub returns : goal.returns
unfolding inverse_network
returns g c =
    let z : c.loop-i.i ≡ 0 = omega arith in
    let e : c.args.n - 0 ≡ c.args.n = omega arith in
    let k : c.args.at + g.row.N / 2 * 0 ≡ c.args.at = omega arith in
    rw (c.rotate_left-t.ensures, z, e, k) at c.loop-i.invariant
