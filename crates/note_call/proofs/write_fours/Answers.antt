use native.Mathlib.Omega.{arith}
use Rattle.note_call.specs.NoteFilled.{note_filled_start, note_ready_again}
use Rattle.note_call.proofs.write_fours.Goals as goal

pub returns-then-not-waits : goal.returns-then-not-waits
returns-then-not-waits g c =
    (omega arith, note_filled_start c.args.cipher.expanded.now c.args.counter c.args.note.now c.requires.room)

pub loop-i-init : goal.loop-i-init
loop-i-init g c = note_filled_start c.args.cipher.expanded.now c.args.counter c.args.note.now c.requires.room

pub write_four-requires : goal.write_four-requires
write_four-requires g c = (
  note_ready_again c.args.cipher.expanded.now c.args.counter c.args.note.now c.requires c.loop-i.invariant,
  omega arith,
)
