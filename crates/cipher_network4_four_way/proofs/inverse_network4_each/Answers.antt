use Prim.Native.Nat.{◌*◌, ◌/◌}
use mathlib.Core.Path.{◌≡◌}
use Rattle.clefia_spec.specs.Network.{inverse_network}
use borrow.Author.Rules.{rules}
use Rattle.cipher_network4_four_way.proofs.inverse_network4_each.Goals as goal

pub returns-then-n-eq0 : goal.returns-then-n-eq0
unfolding inverse_network
returns-then-n-eq0 g c =
    let n = c.args.n in
    let e : 2 * (n / 2) ≡ n = search rules in
    rw (c.undo_by_two.ensures, e, c.rotate_left_each.ensures)
