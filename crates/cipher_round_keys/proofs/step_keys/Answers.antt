use borrow.Author.Tests.{eq-eqb, ne_eqb}
use Rattle.clefia_spec.specs.KeySchedule.{step_keys}
use Rattle.cipher_round_keys.proofs.step_keys.Goals as goal

pub returns-then-i-eq1 : goal.returns-then-i-eq1
unfolding step_keys
returns-then-i-eq1 c = rw (
  c.xors4.ensures,
  c.xors4-m.ensures,
  c.four_at.ensures,
  eq-eqb _ _ c.if-i-eq1.true,
)

pub returns : goal.returns
unfolding step_keys
returns c = rw (c.xors4-m.ensures, c.four_at.ensures, ne_eqb _ _ c.if-i-eq1.false)
