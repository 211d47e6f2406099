use Rattle.note_blocks.specs.Counter.{counter_state}
use Rattle.note_blocks.proofs.counter_state.Goals as goal

pub returns : goal.returns
unfolding counter_state
returns c = rw c.wrapping_add_u32-number.ensures.value
