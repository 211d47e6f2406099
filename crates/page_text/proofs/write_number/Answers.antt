use Rattle.std.proofs.Common.{length-set, ◌≡◌, arith}
use Rattle.page_text.specs.Digits.{written_start, written_next, written_end}
use Rattle.page_text.proofs.write_number.Goals as goal

pub loop-i-init : goal.loop-i-init
loop-i-init c = rw length-set (written_start c.args.n c.args.out.now c.requires)

pub loop-i-preserved : goal.loop-i-preserved
loop-i-preserved c = rw c.digit.ensures (written_next c.loop-i.invariant c.loop-i-test.true)

pub returns : goal.returns
returns c =
    let z : c.loop-i.i ≡ 0 = omega arith in
    rw length-set at (written_end (rw z at c.loop-i.invariant))
