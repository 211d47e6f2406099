use Rattle.std.specs.Prelude.{◌≡◌}
use Rattle.std.proofs.Common.{arith}
use Rattle.cipher_sbox.specs.Boxes.{box}
use Rattle.cipher_sbox.proofs.ByRulesBoxes.substitute.Goals as goal

pub returns-then-i-eq0 : goal.returns-then-i-eq0
unfolding box
returns-then-i-eq0 c = let e : c.args.i ≡ 0 = c.if-i-eq0.true in rw e c.s0.ensures

pub returns-else-i-eq0 : goal.returns-else-i-eq0
unfolding box
returns-else-i-eq0 c = let e : c.args.i ≡ 1 = omega arith in rw e c.s1.ensures
