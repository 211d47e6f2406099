use Rattle.note_blocks.proofs.encrypt_four.Goals as goal

pub returns : goal.returns
returns g c = rw (
  c.encrypt_each.ensures,
  c.counter_state.ensures,
  c.counter_state-2.ensures,
  c.counter_state-3.ensures,
  c.counter_state-4.ensures,
)
