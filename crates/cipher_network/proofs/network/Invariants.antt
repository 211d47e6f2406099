-- `cipher_network::network` meets its contract: the rounds that are left, made on the state, come
-- to what all come to.
use Rattle.std.specs.Prelude.{◌+◌, ◌-◌, ◌*◌, ◌/◌, ◌≡◌}
use Rattle.clefia_spec.specs.FFunction.{f0, f1}
use Rattle.clefia_spec.specs.Network.{rounds}
use Rattle.cipher_network.proofs.network.Given as goal

abbrev pub invariant-loop-i : goal.invariant-loop-i
invariant-loop-i g l =
    rounds (g.row.N / 2) f0 f1 (l.n - l.i) l.expanded (l.at + g.row.N / 2 * l.i) l.t
    ≡ rounds (g.row.N / 2) f0 f1 l.n l.expanded l.at l.initial.t
