use Rattle.std.proofs.Common.{refl}
use Rattle.cipher_network4_four_way.specs.Four.{each_same, two_undone}
use Rattle.cipher_network4_four_way.proofs.undo_two_rounds.Goals as goal

pub returns : goal.returns
returns g c =
    rw (c.undo_round_of_each.ensures, c.undo_round_of_each-t.ensures)
    (each_same (λ s. two_undone c.args.expanded.now c.args.at s refl refl) c.args.s)
