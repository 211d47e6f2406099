-- `cipher_feistel::rotate_right` meets its contract: what is before i has been written.
use Rattle.std.specs.Prelude.{◌≡◌, length, take}
use Rattle.clefia_spec.specs.Network.{rotate_right}
use Rattle.cipher_feistel.proofs.rotate_right.Given as goal

abbrev pub invariant-loop-i : goal.invariant-loop-i
invariant-loop-i g l = (length l.t ≡ length l.s) × (take l.i l.t ≡ take l.i (rotate_right l.s))
