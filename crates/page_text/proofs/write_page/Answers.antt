use Rattle.std.proofs.Common.{◌∙◌, ◌*◌, refl}
use Rattle.planbook_laws.specs.Parts.{part}
use Rattle.page_text.specs.Lines.{lined_start, lined_next, lined_end}
use Rattle.page_text.proofs.write_page.Goals as goal

pub loop-i-init : goal.loop-i-init
loop-i-init c =
    lined_start c.args.count c.args.body.now (c.write_heading.auto.out ∙ c.requires.1) c.write_heading.ensures

pub loop-i-preserved : goal.loop-i-preserved
loop-i-preserved c =
    rw (c.write_line.ensures, part 16 (16 * c.loop-i.i) c.args.body.now refl)
    (lined_next c.loop-i.invariant c.loop-i-test.true)

pub returns : goal.returns
returns c = lined_end c.loop-i.invariant c.loop-i-test.false
