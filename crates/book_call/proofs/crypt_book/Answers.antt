-- `book_call::crypt_book` meets its contract: check 4, those of the book, and then the other book.
use Rattle.std.proofs.Common.{refl}
use Rattle.std.proofs.lemmas.Result.{err_from_is_err_and}
use Rattle.book_call.specs.BookCallLaws.{wrong_output, wrong_book, checked_formed, right_book}
use Rattle.book_call.proofs.crypt_book.Goals as goal

pub returns-then-out-book : goal.returns-then-out-book
returns-then-out-book g c =
    wrong_output c.args.decrypting c.args.cipher.expanded.now c.args.book.now c.args.out.now c.if-out-book.true

pub returns-in_err-count : goal.returns-in_err-count
returns-in_err-count g c =
    let p = err_from_is_err_and c.from_residual.result c.from_residual.ensures.1 in
    rw (p.1, p.2)
    (wrong_book c.args.decrypting c.args.cipher.expanded.now c.args.book.now c.args.out.now
    c.if-out-book.false c.in_err-count.ensures refl)

pub write_book-requires : goal.write_book-requires
write_book-requires g c = (
  checked_formed c.args.decrypting c.args.cipher.expanded.now _ c.args.out.now c.if-out-book.false
      c.in_ok-count.ensures,
  c.if-out-book.false,
)

pub returns : goal.returns
returns g c =
    rw c.write_book.ensures (right_book c.args.decrypting c.args.cipher.expanded.now c.args.book.now
    c.args.out.now c.if-out-book.false c.in_ok-count.ensures)
