-- `book_form::check_contents` meets its contract. The invariant says what the walk has found, and
-- what the iterator has left.
use mathlib.Core.Path.{◌≡◌}
use Rattle.book_form.specs.Walks.{Left}
use Rattle.book_form.proofs.check_contents.Given as goal

abbrev pub invariant-loop-entry : goal.invariant-loop-entry
invariant-loop-entry l = (l.entry-iterator.size ≡ 24) × Left l.book l.previous l.records l.entry-iterator.rest.now
