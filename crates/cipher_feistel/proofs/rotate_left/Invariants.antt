-- `cipher_feistel::rotate_left` meets its contract: what is before i has been written.
use Rattle.std.specs.Prelude.{◌≡◌, length, take}
use Rattle.clefia_spec.specs.Network.{rotate_left}
use Rattle.cipher_feistel.proofs.rotate_left.Given as goal

abbrev pub invariant-loop-i : goal.invariant-loop-i
invariant-loop-i g l = (length l.t ≡ length l.s) × (take l.i l.t ≡ take l.i (rotate_left l.s))
