use Rattle.std.proofs.Common.{refl}
use Rattle.cipher_network4_four_way.specs.Four.{each_same, two_rounds_lem}
use Rattle.cipher_network4_four_way.proofs.two_rounds.Goals as goal

pub returns : goal.returns
returns g c =
    rw (c.round_of_each.ensures, c.round_of_each-t.ensures)
    (each_same (λ s. two_rounds_lem c.args.expanded.now c.args.at s refl refl) c.args.s)
