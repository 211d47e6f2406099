-- `page_text::write_page` meets its contract: the page is written up to line i.
use Rattle.page_text.specs.Lines.{Lined}
use Rattle.page_text.proofs.write_page.Given as goal

abbrev pub invariant-loop-i : goal.invariant-loop-i
invariant-loop-i l = Lined l.count l.body l.out l.i
