-- What a call is given and what it writes, by the direction: a book to be decrypted has the first
-- byte 2, one to be encrypted 1.
use Rattle.std.specs.Prelude.{ℕ, Bool, not, List, []}
use Rattle.clefia_spec.specs.Words.{choose}
use Rattle.clefia_spec.specs.Block.{decrypt_under}
use Rattle.planbook_spec.specs.Outcome.{Outcome, accepted, judged}
use Rattle.planbook_spec.specs.Book.{contents, record_count, as_it_is, decrypt_body, map_bodies, book_checks}
use Rattle.book_chain.specs.Crypt.{crypted_body}

-- The first byte of the book that a call is given.
abbrev pub kind_of : Bool → ℕ
kind_of decrypting = choose decrypting 2 1

-- The clear body of a sheet under words w: that of a book to be decrypted is its body decrypted.
abbrev pub clear_body : Bool → List ℕ → List ℕ → List ℕ → List ℕ
clear_body decrypting w = choose decrypting (decrypt_body (decrypt_under w)) as_it_is

-- What a call on a whole book comes to.
abbrev pub crypted_book : Bool → List ℕ → List ℕ → List ℕ → Outcome
crypted_book decrypting w book out =
    judged (book_checks [] (kind_of decrypting) (clear_body decrypting w) book out)
    (accepted (record_count (contents book)) (map_bodies (kind_of (not decrypting)) (crypted_body decrypting w) book))
