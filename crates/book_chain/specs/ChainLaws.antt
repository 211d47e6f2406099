-- Laws of chains: what a step on words is on bytes, and a body that is filled block by block.
use Rattle.std.specs.Prelude.{ℕ, zero, suc, ◌+◌, ◌-◌, ◌*◌, ◌^◌, ◌≤◌, ◌<◌, ◌≡◌, Bool, true, false, ◌&&◌, length, take, drop}
use Rattle.std.proofs.Math.Path.{sym, ap, ap₂}
use Rattle.std.proofs.Common.{◌∙◌, arith, lit<, length-drop, length-take-le, take_at, drop_at}
use Rattle.std.proofs.Math.Bool.{and_assoc, and-true}
use mathlib.Core.List.{List, ◌∷◌, ◌++◌}
use borrow.Rule.Slice.PartMut.{put_mid}
use Rattle.clefia_spec.specs.Words.{bytes_of, words_of, xors, choose, Below}
use Rattle.clefia_laws.specs.DigitLaws.{below_take, below_drop, length_digits_of, below_digits_of, numbers_of_xors}
use Rattle.clefia_laws.specs.DigitLaws.{digits_of_xors}
use Rattle.clefia_laws.specs.SizedLaws.{Words, sized_xors}
use Rattle.clefia_spec.specs.Block.{encrypt_words, decrypt_words, encrypt_under, decrypt_under}
use Rattle.clefia_laws.specs.BlockLaws.{block_words, words_of_block, words_at, block_at, words_encrypt_words}
use Rattle.clefia_laws.specs.BlockLaws.{words_decrypt_words}
use Rattle.planbook_spec.specs.Book.{count, iv, pieces, record_holds, all_records_hold, sheet_holds, cbc_encrypt, cbc_decrypt}
use Rattle.planbook_spec.specs.Book.{encrypt_body, decrypt_body}
use Rattle.planbook_laws.specs.WalkLaws.{encrypt_next, decrypt_next}
use Rattle.cipher_bytes.specs.ListLaws.{fill_end, fill_part, length_part}
use Rattle.book_chain.specs.declared.Chain.{Chain}
use Rattle.book_chain.specs.Chain.{Step, encrypt_step, decrypt_step}

-- ---- four words and their bytes

pub length_bytes : {s : List ℕ} → Words 4 s → length (bytes_of s) ≡ 16
length_bytes {s} h = length_digits_of 256 4 s ∙ ap (λ (n : ℕ). n * 4) h.size

-- ---- one step, under words w; p group_passed before, and bs begins with the block

module _ {w p bs : List ℕ} (words : Below (2 ^ 32) w) (before : Words 4 p) (bytes : Below 256 bs)
    (long : 16 ≤ length bs) where
  size : length (take 16 bs) ≡ 16
  size = length-take-le 16 bs long

  pub words_encrypted : Words 4 (encrypt_words w (xors p (words_of 4 bs)))
  words_encrypted = words_encrypt_words words (sized_xors 32 before (words_of_block bytes))

  pub encrypt_step_lem : encrypt_under w (xors (bytes_of p) (take 16 bs))
      ≡ bytes_of (encrypt_words w (xors p (words_of 4 bs)))
  unfolding encrypt_under
  encrypt_step_lem =
      ap (λ (s : List ℕ). bytes_of (encrypt_words w s))
      (numbers_of_xors 8 4 4 (below_digits_of (lit< tt) 4 p) (below_take 16 bytes) (length_bytes before ∙ sym size)
      ∙ ap₂ xors (block_words before) (words_at bs long))

  pub words_decrypted : Words 4 (xors p (decrypt_words w (words_of 4 bs)))
  words_decrypted = sized_xors 32 before (words_decrypt_words words (words_of_block bytes))

  pub decrypt_step_lem : xors (bytes_of p) (decrypt_under w (take 16 bs))
      ≡ bytes_of (xors p (decrypt_words w (words_of 4 bs)))
  unfolding decrypt_under
  decrypt_step_lem =
      ap (λ (s : List ℕ). xors (bytes_of p) (bytes_of (decrypt_words w s))) (words_at bs long)
      ∙ sym (digits_of_xors 8 4 p (decrypt_words w (words_of 4 bs))
      (before.size ∙ sym (words_decrypt_words words (words_of_block bytes)).size))

-- ---- the body of a sheet in either direction, block by block: `left` blocks are to come, the
-- first of them at `at`

abbrev chaining : Bool → List ℕ → ℕ → List ℕ → List ℕ → List ℕ
chaining decrypting w = choose decrypting (cbc_decrypt (decrypt_under w)) (cbc_encrypt (encrypt_under w))

pub record Chained (decrypting : Bool) (w entry body out : List ℕ) (at left : ℕ) (p : List ℕ) : Type 0 where
  pub place : at + 16 * left ≡ 16 * count entry
  pub state : Words 4 p
  pub size : length out ≡ 16 * count entry
  pub whole : take at out ++ chaining decrypting w left (bytes_of p) (drop at body)
      ≡ chaining decrypting w (count entry) (iv entry) body

pub chain_start : (decrypting : Bool) (w body : List ℕ) {entry out : List ℕ} → Below 256 entry → length entry ≡ 24
    → length out ≡ 16 * count entry
    → Chained decrypting w entry body out 0 (count entry) (words_of 4 (drop 8 entry))
chain_start decrypting w body {entry} b l m =
    let k : 16 ≤ length (drop 8 entry) = rw length-drop (omega arith) in
    record {
      place = omega arith;
      state = words_of_block (below_drop 8 b);
      size = m;
      whole = ap (λ (x : List ℕ). chaining decrypting w (count entry) x body)
          (block_at (drop 8 entry) (below_drop 8 b) k);
    }

-- The block b is written, and q goes before the next.
module _ {decrypting : Bool} {w entry body out : List ℕ} {at left : ℕ} {p : List ℕ}
    (c : Chained decrypting w entry body out at left p) where
  chain_step : {b q : List ℕ} → 0 < left → Words 4 b → Words 4 q
      → chaining decrypting w left (bytes_of p) (drop at body) ≡ bytes_of b
      ++ chaining decrypting w (left - 1) (bytes_of q) (drop (at + 16) body)
      → Chained decrypting w entry body (put_mid at (at + 16 - at) out (bytes_of b)) (at + 16) (left - 1) q
  chain_step {b} {q} h rb rq e =
      let fits : at + 16 ≤ length out = omega (arith, c.place, c.size) in
      record {
        place = omega (arith, c.place);
        state = rq;
        size = length_part at 16 out (bytes_of b) (length_bytes rb) fits ∙ c.size;
        whole = fill_part at 16 out (bytes_of b) _ (length_bytes rb) fits (rw e at c.whole);
      }

pub chain_end : (decrypting : Bool) {w entry body out : List ℕ} {at left : ℕ} {p : List ℕ}
    → Chained decrypting w entry body out at left p → left ≡ 0
    → out ≡ choose decrypting (decrypt_body (decrypt_under w)) (encrypt_body (encrypt_under w)) entry body
unfolding encrypt_body decrypt_body cbc_encrypt cbc_decrypt
chain_end false {w} {entry} {body} {out} {at} c z =
    fill_end out at _ (omega (arith, c.place, c.size)) (rw z at c.whole)
chain_end true {w} {entry} {body} {out} {at} c z =
    fill_end out at _ (omega (arith, c.place, c.size)) (rw z at c.whole)

-- One turn of each chaining.
module _ {w body p : List ℕ} (at : ℕ) {left : ℕ} (words : Below (2 ^ 32) w) (before : Words 4 p)
    (bytes : Below 256 body) (fits : at + 16 ≤ length body) (h : 0 < left) where
  long : 16 ≤ length (drop at body)
  long = rw length-drop (omega arith)

  pub encrypt_turn : cbc_encrypt (encrypt_under w) left (bytes_of p) (drop at body)
      ≡ bytes_of (encrypt_words w (xors p (words_of 4 (drop at body))))
      ++ cbc_encrypt (encrypt_under w) (left - 1) (bytes_of (encrypt_words w (xors p (words_of 4 (drop at body)))))
      (drop (at + 16) body)
  encrypt_turn =
      encrypt_next (encrypt_under w) left at (bytes_of p) body h
      ∙ ap (λ (x : List ℕ). x ++ cbc_encrypt (encrypt_under w) (left - 1) x (drop (at + 16) body))
      (encrypt_step_lem words before (below_drop at bytes) long)

  pub decrypt_turn : cbc_decrypt (decrypt_under w) left (bytes_of p) (drop at body)
      ≡ bytes_of (xors p (decrypt_words w (words_of 4 (drop at body))))
      ++ cbc_decrypt (decrypt_under w) (left - 1) (bytes_of (words_of 4 (drop at body))) (drop (at + 16) body)
  decrypt_turn =
      decrypt_next (decrypt_under w) left at (bytes_of p) body h
      ∙ ap₂ (λ (x y : List ℕ). x ++ cbc_decrypt (decrypt_under w) (left - 1) y (drop (at + 16) body))
      (decrypt_step_lem words before (below_drop at bytes) long)
      (sym (block_at (drop at body) (below_drop at bytes) long))

-- The same turns, as a loop makes them: c is the chain.
pub chain_turn : (decrypting : Bool) (c : Chain) {w entry body out : List ℕ} {at left : ℕ} → Below (2 ^ 32) w
    → Below 256 body → length body ≡ 16 * count entry → 0 < left
    → Chained decrypting w entry body out at left c.previous
    → let s : Step = choose decrypting (decrypt_step w) (encrypt_step w) c (words_of 4 (drop at body)) in
    Chained decrypting w entry body (put_mid at (at + 16 - at) out (bytes_of s.block)) (at + 16) (left - 1)
    s.next.previous
chain_turn false c {w} {entry} {body} {out} {at} words bytes size h d =
    let f : at + 16 ≤ length body = omega (arith, d.place) in
    let r : Words 4 (encrypt_words w (xors c.previous (words_of 4 (drop at body)))) =
    words_encrypted words d.state (below_drop at bytes) (rw length-drop (omega arith)) in
    chain_step d h r r (encrypt_turn at words d.state bytes f h)
chain_turn true c {w} {entry} {body} {out} {at} words bytes size h d =
    let f : at + 16 ≤ length body = omega (arith, d.place) in
    chain_step d h
    (words_decrypted words d.state (below_drop at bytes) (rw length-drop (omega arith)))
    (words_of_block (below_drop at bytes))
    (decrypt_turn at words d.state bytes f h)

-- ---- the block that is read ahead: it begins at `end`, or is the first again where n, the number
-- of those that follow, is 0

pub ahead_fits : (n : ℕ) {end size from : ℕ} → end + 16 * n ≡ size → 16 ≤ size → (end < size → from ≡ end)
    → (size ≤ end → from ≡ 0) → from + 16 ≤ size
ahead_fits zero {end} {size} {from} e h f g = let z : from ≡ 0 = g (omega arith) in omega arith
ahead_fits (suc n) {end} {size} {from} e h f g = let z : from ≡ end = f (omega arith) in omega arith

-- ---- a rule of the records, looked at as the chain is undone

-- So far all records have held, or not (b); `left` are to come.
pub record Decrypted (b : Bool) (w entry body : List ℕ) (at left : ℕ) (p : List ℕ) : Type 0 where
  pub place : at + 16 * left ≡ 16 * count entry
  pub state : Words 4 p
  pub rest : (b && all_records_hold entry (pieces 16 left (cbc_decrypt (decrypt_under w) left (bytes_of p)
      (drop at body))))
      ≡ sheet_holds entry (decrypt_body (decrypt_under w) entry body)

pieces_first : (n : ℕ) (b rest : List ℕ) → 0 < n → length b ≡ 16 → pieces 16 n (b ++ rest) ≡ b ∷ pieces 16 (n - 1) rest
unfolding pieces
pieces_first zero b rest h l = let z : ⊥ = omega arith in absurd z
pieces_first (suc n) b rest h l =
    let e : suc n - 1 ≡ n = omega arith in
    rw (take_at b rest 16 l, drop_at b rest 16 l, e)

pub decrypted_start : (w entry body : List ℕ) → Below 256 entry → length entry ≡ 24
    → Decrypted true w entry body 0 (count entry) (words_of 4 (drop 8 entry))
unfolding decrypt_body
decrypted_start w entry body b l =
    let k : 16 ≤ length (drop 8 entry) = rw length-drop (omega arith) in
    record {
      place = omega arith;
      state = words_of_block (below_drop 8 b);
      rest = ap (λ (x : List ℕ). all_records_hold entry
          (pieces 16 (count entry) (cbc_decrypt (decrypt_under w) (count entry) x body)))
          (block_at (drop 8 entry) (below_drop 8 b) k);
    }

module _ {b : Bool} {w entry body p : List ℕ} {at left : ℕ} (o : Decrypted b w entry body at left p) where
  module _ (words : Below (2 ^ 32) w) (bytes : Below 256 body) (size : length body ≡ 16 * count entry)
      (h : 0 < left) where
    abbrev clear : List ℕ
    clear = xors p (decrypt_words w (words_of 4 (drop at body)))

    fits : at + 16 ≤ length body
    fits = omega (arith, o.place)

    enough : 16 ≤ length (drop at body)
    enough = rw length-drop (omega (arith, fits))

    words_clear : Words 4 clear
    words_clear = words_decrypted words o.state (below_drop at bytes) enough

    -- One record more.
    pub decrypted_step : {r : Bool} → r ≡ record_holds entry (bytes_of clear)
        → Decrypted (b && r) w entry body (at + 16) (left - 1) (words_of 4 (drop at body))
    unfolding all_records_hold
    decrypted_step e =
        record {
          place = omega (arith, o.place);
          state = words_of_block (below_drop at bytes);
          rest =
              rw e
              (and_assoc b _ _
              ∙ rw (
                decrypt_turn at words o.state bytes fits h,
                pieces_first left (bytes_of clear) (cbc_decrypt (decrypt_under w) (left - 1)
                    (bytes_of (words_of 4 (drop at body))) (drop (at + 16) body)) h (length_bytes words_clear),
              ) at
              o.rest);
        }

  -- One did not hold, or none is left.
  pub decrypted_broken : b ≡ false → b ≡ sheet_holds entry (decrypt_body (decrypt_under w) entry body)
  decrypted_broken e = rw e (rw e at o.rest)

  pub decrypted_end : left ≡ 0 → b ≡ sheet_holds entry (decrypt_body (decrypt_under w) entry body)
  unfolding all_records_hold pieces
  decrypted_end z = sym (and-true b) ∙ rw z at o.rest
