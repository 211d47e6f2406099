-- `note_blocks::add_part` meets its contract: what is before `i` has been written.
use Rattle.std.proofs.Common.{◌≡◌, take}
use Rattle.clefia_spec.specs.Words.{xors}
use Rattle.note_blocks.proofs.add_part.Given as goal

abbrev pub invariant-loop-i : goal.invariant-loop-i
invariant-loop-i l = take l.i l.out ≡ take l.i (xors l.bytes l.part)
