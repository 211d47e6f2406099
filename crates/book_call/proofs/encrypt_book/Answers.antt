use Rattle.planbook_spec.specs.Book.{encrypt_book_by}
use Rattle.book_call.proofs.encrypt_book.Goals as goal

pub returns : goal.returns
unfolding encrypt_book_by
returns g c = c.crypt_book.ensures
