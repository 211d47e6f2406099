-- `cipher_network::inverse_network` meets its contract: the rounds from i on have been undone.
use Rattle.std.specs.Prelude.{◌+◌, ◌-◌, ◌*◌, ◌/◌, ◌≡◌}
use Rattle.clefia_spec.specs.FFunction.{f0, f1}
use Rattle.clefia_spec.specs.Network.{undo_rounds}
use Rattle.cipher_network.proofs.inverse_network.Given as goal

abbrev pub invariant-loop-i : goal.invariant-loop-i
invariant-loop-i g l =
    l.t ≡ undo_rounds (g.row.N / 2) f0 f1 (l.n - l.i) l.expanded (l.at + g.row.N / 2 * l.i) l.initial.t
