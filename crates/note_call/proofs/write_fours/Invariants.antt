-- `note_call::write_fours` meets its contract: the fours before the one numbered i are written.
use Prim.Native.Nat.{◌*◌}
use Rattle.note_call.specs.NoteFilled.{crypted_note, NoteFilled}
use Rattle.note_call.proofs.write_fours.Given as goal

abbrev pub invariant-loop-i : goal.invariant-loop-i
invariant-loop-i g l = NoteFilled (16 * (4 * l.i)) (crypted_note l.cipher.expanded.now l.counter l.note) l.out
