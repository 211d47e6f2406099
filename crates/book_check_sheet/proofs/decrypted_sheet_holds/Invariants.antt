-- `book_check_sheet::decrypted_sheet_holds` meets its contract: `i` times four records have been
-- looked at.
use Prim.Native.Nat.{◌-◌, ◌*◌}
use Rattle.planbook_spec.specs.Book.{count}
use Rattle.book_chain.specs.ChainLaws.{Decrypted}
use Rattle.book_check_sheet.proofs.decrypted_sheet_holds.Given as goal

abbrev pub invariant-loop-i : goal.invariant-loop-i
invariant-loop-i g l =
    Decrypted l.holds l.cipher.expanded.now l.sheet.entry.now l.sheet.body.now (64 * l.i)
    (count l.sheet.entry.now - 4 * l.i) l.previous
