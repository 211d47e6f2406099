-- `book_crypt_sheet::crypt_sheet` meets its contract: `i` records are written, and the next one,
-- where there is one, has been read.
use Prim.Native.Nat.{◌-◌, ◌*◌, ◌<◌}
use mathlib.Core.Path.{◌≡◌}
use lib.ListN.{drop}
use Rattle.clefia_spec.specs.Words.{words_of}
use Rattle.planbook_spec.specs.Book.{count}
use Rattle.book_chain.specs.ChainLaws.{Chained}
use Rattle.book_crypt_sheet.proofs.crypt_sheet.Given as goal

abbrev pub invariant-loop-i : goal.invariant-loop-i
invariant-loop-i g l =
    Chained l.decrypting l.cipher.expanded.now l.sheet.entry.now l.sheet.body.now l.out (16 * l.i)
    (count l.sheet.entry.now - l.i) l.chain.previous
    × (l.i < count l.sheet.entry.now → l.block ≡ words_of 4 (drop (16 * l.i) l.sheet.body.now))
