use Rattle.planbook_spec.specs.Book.{decrypt_book_by}
use Rattle.book_call.proofs.decrypt_book.Goals as goal

pub returns : goal.returns
unfolding decrypt_book_by
returns g c = c.crypt_book.ensures
