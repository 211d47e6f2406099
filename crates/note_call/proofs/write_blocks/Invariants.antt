-- `note_call::write_blocks` meets its contract: the blocks before block i are written.
use Prim.Native.Nat.{◌*◌}
use Rattle.note_call.specs.NoteFilled.{crypted_note, NoteFilled}
use Rattle.note_call.proofs.write_blocks.Given as goal

abbrev pub invariant-loop-i : goal.invariant-loop-i
invariant-loop-i g l = NoteFilled (16 * l.i) (crypted_note l.cipher.expanded.now l.counter l.note) l.out
