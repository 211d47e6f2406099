use Prim.Native.Nat.{◌*◌}
use mathlib.Core.List.{◌++◌}
use mathlib.Core.Path.{◌≡◌}
use lib.ListN.{take, drop}
use Rattle.clefia_spec.specs.Words.{bytes_of}
use Rattle.cipher_bytes.proofs.store_all.Given as goal

abbrev pub invariant-loop-i : goal.invariant-loop-i
invariant-loop-i l = take (4 * l.i) l.dst ++ bytes_of (drop l.i l.src) ≡ bytes_of l.src
