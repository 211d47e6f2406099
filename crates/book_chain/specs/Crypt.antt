-- What is done to a block and to a body, by the direction.
use Rattle.std.specs.Prelude.{ℕ, Bool, List}
use Rattle.clefia_spec.specs.Words.{choose}
use Rattle.clefia_spec.specs.Block.{encrypt_under, decrypt_under}
use Rattle.planbook_spec.specs.Book.{encrypt_body, decrypt_body}
use Rattle.book_chain.specs.declared.Chain.{Chain}
use Rattle.book_chain.specs.Chain.{Step, encrypt_step, decrypt_step}

abbrev pub crypt_step : Bool → List ℕ → Chain → List ℕ → Step
crypt_step decrypting w = choose decrypting (decrypt_step w) (encrypt_step w)

-- The body of the other book: an encrypted one decrypted, a clear one encrypted.
abbrev pub crypted_body : Bool → List ℕ → List ℕ → List ℕ → List ℕ
crypted_body decrypting w = choose decrypting (decrypt_body (decrypt_under w)) (encrypt_body (encrypt_under w))
