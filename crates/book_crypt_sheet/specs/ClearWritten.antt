-- One of four records, written: the law is cited for each.
use Rattle.std.specs.Prelude.{ℕ, ◌+◌, ◌-◌, ◌*◌, ◌^◌, ◌<◌, ◌≡◌, true, List, length, drop}
use borrow.Rule.Slice.PartMut.{put_mid}
use Rattle.clefia_spec.specs.Words.{bytes_of, words_of, xors, Below}
use Rattle.clefia_spec.specs.Block.{decrypt_words}
use Rattle.planbook_spec.specs.Book.{count}
use Rattle.book_chain.specs.ChainLaws.{Chained, chain_turn}

-- The block t added to p and written at `at`, and the one there in the body read.
pub record ClearWritten (body out : List ℕ) (at : ℕ) (p t r exit : List ℕ) : Type 0 where
  pub read : r ≡ words_of 4 (drop at body)
  pub written : exit ≡ put_mid at (at + 16 - at) out (bytes_of (xors p t))

module _ {w e body : List ℕ} (words : Below (2 ^ 32) w) (bytes : Below 256 body)
    (size : length body ≡ 16 * count e) where
  pub written_turn : {out exit p t r : List ℕ} {at left : ℕ} → Chained true w e body out at left p → 0 < left
      → t ≡ decrypt_words w (words_of 4 (drop at body))
      → ClearWritten body out at p t r exit → Chained true w e body exit (at + 16) (left - 1) r
  written_turn {p = p} c h d k = rw (k.written, k.read, d)
      (chain_turn true (record { previous = p }) words bytes size h c)
