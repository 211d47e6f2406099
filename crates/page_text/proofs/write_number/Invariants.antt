-- `page_text::write_number` meets its contract: from i on, the output is the end of the field.
use lib.ListN.{length}
use Rattle.page_text.specs.Digits.{DigitsWritten}
use Rattle.page_text.proofs.write_number.Given as goal

abbrev pub invariant-loop-i : goal.invariant-loop-i
invariant-loop-i l = DigitsWritten (length l.initial.out) l.n l.i l.rest l.out
