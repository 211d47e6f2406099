-- `book_check_sheet::rest_holds` meets its contract: `i` records have been looked at.
use Prim.Native.Nat.{◌-◌, ◌*◌}
use Rattle.planbook_spec.specs.Book.{count}
use Rattle.book_chain.specs.ChainLaws.{Decrypted}
use Rattle.book_check_sheet.proofs.rest_holds.Given as goal

abbrev pub invariant-loop-i : goal.invariant-loop-i
invariant-loop-i g l =
    Decrypted l.held l.cipher.expanded.now l.sheet.entry.now l.sheet.body.now (16 * l.i)
    (count l.sheet.entry.now - l.i) l.chain.previous
