-- `cipher_network4_four_way::undo_by_two` meets its contract: the rounds from twice i on have been
-- undone on each state.
use Rattle.std.specs.Prelude.{◌+◌, ◌-◌, ◌*◌, ◌≡◌}
use Rattle.clefia_spec.specs.FFunction.{f0, f1}
use Rattle.clefia_spec.specs.Network.{undo_rounds}
use Rattle.cipher_network4_four_way.specs.Four.{each}
use Rattle.cipher_network4_four_way.proofs.undo_by_two.Given as goal

abbrev pub invariant-loop-i : goal.invariant-loop-i
invariant-loop-i g l = l.t ≡ each (undo_rounds 2 f0 f1 (2 * (l.n - l.i)) l.expanded (l.at + 4 * l.i)) l.initial.t
