use Prim.Native.Nat.{◌+◌, ◌-◌, ◌*◌}
use mathlib.Core.List.{◌++◌}
use mathlib.Core.Path.{◌≡◌}
use lib.ListN.{length, take}
use Rattle.clefia_spec.specs.KeySchedule.{round_keys}
use Rattle.cipher_round_keys.proofs.round_keys.Given as goal

abbrev pub invariant-loop-i : goal.invariant-loop-i
invariant-loop-i l =
    (length l.a ≡ 4)
    × (length l.b ≡ 4)
    × (take (4 + 4 * l.i) l.expanded ++ round_keys l.period l.base l.con (l.n - l.i) l.i l.k l.k2 l.a l.b
    ≡ take 4 l.initial.expanded
    ++ round_keys l.period l.base l.con l.n 0 l.k l.k2 l.initial.a l.initial.b)
