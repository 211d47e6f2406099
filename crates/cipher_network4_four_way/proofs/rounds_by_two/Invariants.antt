-- `cipher_network4_four_way::rounds_by_two` meets its contract: the rounds that are left, made on
-- each state, come to what all come to.
use Rattle.std.specs.Prelude.{◌+◌, ◌-◌, ◌*◌, ◌≡◌}
use Rattle.clefia_spec.specs.FFunction.{f0, f1}
use Rattle.clefia_spec.specs.Network.{rounds}
use Rattle.cipher_network4_four_way.specs.Four.{each}
use Rattle.cipher_network4_four_way.proofs.rounds_by_two.Given as goal

abbrev pub invariant-loop-i : goal.invariant-loop-i
invariant-loop-i g l =
    each (rounds 2 f0 f1 (2 * (l.n - l.i)) l.expanded (l.at + 4 * l.i)) l.t
    ≡ each (rounds 2 f0 f1 (2 * l.n) l.expanded l.at) l.initial.t
