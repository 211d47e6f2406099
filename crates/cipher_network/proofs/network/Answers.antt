use Rattle.std.specs.Prelude.{◌+◌, ◌-◌, ◌*◌, ◌/◌, ◌≡◌}
use Rattle.std.proofs.Common.{◌∙◌, ap, arith}
use Rattle.clefia_spec.specs.FFunction.{f0, f1}
use Rattle.clefia_spec.specs.Network.{rotate_right, network}
use Rattle.cipher_network.specs.RoundLaws.{rounds_step, rounds_end, next_keys}
use Rattle.cipher_network.proofs.network.Goals as goal

pub loop-i-preserved : goal.loop-i-preserved
loop-i-preserved g c =
    let a = c.args in
    let i = c.loop-i.i in
    let p = g.row.N / 2 in
    let e : a.n - (i + 1) ≡ a.n - i - 1 = omega arith in
    rw (c.rotate_left-t.ensures, c.feistel.ensures, e, next_keys a.at p i)
    (rounds_step p f0 f1 (a.n - i) a.expanded.now (a.at + p * i) c.loop-i.t (omega arith) ∙ c.loop-i.invariant)

pub returns : goal.returns
unfolding network
returns g c =
    c.rotate_right.ensures
    ∙ ap rotate_right (rounds_end (g.row.N / 2) f0 f1 (c.args.n - c.loop-i.i) _ _ _ _ _ _ (omega arith)
    c.loop-i.invariant)
