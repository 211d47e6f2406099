-- `book_crypt_bodies::crypt_bodies` meets its contract: the bodies of the sheets that the walk has
-- left are still to be written, from `at` on.
use Rattle.book_chain.specs.Crypt.{crypted_body}
use Rattle.book_sheets.specs.Left.{sheets_left}
use Rattle.book_crypt_bodies.specs.BodiesLaws.{BodiesFilled}
use Rattle.book_crypt_bodies.proofs.crypt_bodies.Given as goal

abbrev pub invariant-loop-sheet : goal.invariant-loop-sheet
invariant-loop-sheet g l =
    BodiesFilled (crypted_body l.decrypting l.cipher.expanded.now) l.book l.initial.out l.out
    (sheets_left l.sheet-iterator) l.at
