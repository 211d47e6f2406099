-- `book_crypt_sheet::write_fours` meets its contract: `i` times four records are written.
use Prim.Native.Nat.{◌-◌, ◌*◌}
use mathlib.Core.Bool.{true}
use Rattle.planbook_spec.specs.Book.{count}
use Rattle.book_chain.specs.ChainLaws.{Chained}
use Rattle.book_crypt_sheet.proofs.write_fours.Given as goal

abbrev pub invariant-loop-i : goal.invariant-loop-i
invariant-loop-i g l =
    Chained true l.cipher.expanded.now l.sheet.entry.now l.sheet.body.now l.out (64 * l.i)
    (count l.sheet.entry.now - 4 * l.i) l.previous
