use borrow.Author.Tests.{eq-eqb, ne_eqb}
use Rattle.page_text.specs.Digits.{shown_digit}
use Rattle.page_text.proofs.digit.Goals as goal

pub returns-then-rest-eq0 : goal.returns-then-rest-eq0
unfolding shown_digit
returns-then-rest-eq0 c = rw (eq-eqb _ _ c.if-rest-eq0.true)

pub returns-else-rest-eq0 : goal.returns-else-rest-eq0
unfolding shown_digit
returns-else-rest-eq0 c = rw (ne_eqb _ _ c.if-rest-eq0.false)
