-- One of four records, looked at: the law is cited for each.
use Rattle.std.specs.Prelude.{ℕ, ◌+◌, ◌-◌, ◌*◌, ◌^◌, ◌<◌, ◌≡◌, Bool, ◌&&◌, List, length, drop}
use Rattle.clefia_spec.specs.Words.{bytes_of, words_of, xors, Below}
use Rattle.clefia_spec.specs.Block.{decrypt_words}
use Rattle.planbook_spec.specs.Book.{count, record_holds}
use Rattle.book_chain.specs.ChainLaws.{Decrypted, decrypted_step}

module _ {w e body : List ℕ} (words : Below (2 ^ 32) w) (bytes : Below 256 body)
    (size : length body ≡ 16 * count e) where
  pub record_turn : {b r : Bool} {p q t : List ℕ} {at left : ℕ} → Decrypted b w e body at left p → 0 < left
      → t ≡ decrypt_words w (words_of 4 (drop at body))
      → q ≡ p → r ≡ record_holds e (bytes_of (xors q t))
      → Decrypted (b && r) w e body (at + 16) (left - 1) (words_of 4 (drop at body))
  record_turn o h d f k = decrypted_step o words bytes size h (rw (f, d) at k)
