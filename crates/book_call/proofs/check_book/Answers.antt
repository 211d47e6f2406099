-- `book_call::check_book` meets its contract, by the direction.
use Rattle.book_call.proofs.check_book.Goals as goal

pub returns-then-decrypting : goal.returns-then-decrypting
returns-then-decrypting g c = rw c.if-decrypting.true c.check_encrypted_book.ensures

pub returns : goal.returns
returns g c = rw c.if-decrypting.false c.check_clear_book.ensures
