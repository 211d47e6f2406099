-- An accepted call gives exactly as many bytes as the given output has: no outcome asks for what no
-- call could do.
use Rattle.std.specs.Prelude.{ℕ, ◌*◌, List, ◌≡◌}
use Rattle.std.proofs.Math.Path.{sym, ap}
use Rattle.std.proofs.Common.{◌∙◌, mul_comm}
use Rattle.std.proofs.Math.ListN.{length}
use Rattle.clefia_spec.specs.Words.{Below, bytes_of}
use Rattle.clefia_spec.specs.Block.{encrypt_under}
use Rattle.clefia_laws.specs.SizedLaws.{Bytes, Undone}
use Rattle.clefia_laws.specs.DigitLaws.{length_digits_of}
use Rattle.clefia_laws.specs.KeyLaws.{length_constants, length_expand_key}
use Rattle.planbook_spec.specs.Outcome.{accepted, judged}
use Rattle.planbook_spec.specs.OutcomeLaws.{pass_tail, passed}
use Rattle.planbook_spec.specs.Checks.{words_from_bytes, words_and_way, constant_count, expanded_count, constants_call}
use Rattle.planbook_spec.specs.Checks.{expand_key_call, block_checks, encrypt_block_call, decrypt_block_call}
use Rattle.planbook_laws.specs.CheckLaws.{key_permitted, output_size, block_size}
use Rattle.planbook_spec.specs.Book.{encrypt_book_call, decrypt_book_call}
use Rattle.planbook_spec.specs.Note.{crypt_note_by, crypt_note_call}
use Rattle.planbook_spec.specs.Page.{page_checks, page, line_count, page_call}
use Rattle.planbook_laws.specs.BookCipher.{encrypted_length, decrypted_length}
use Rattle.planbook_laws.specs.Demands.{cipher_from_bytes}
use Rattle.planbook_laws.specs.NoteLaws.{length_ctr, note_passed}
use Rattle.planbook_laws.specs.PageLaws.{length_page, page_passed}

-- The bytes of n words.
words_length : (ws : List ℕ) (n : ℕ) → length ws ≡ n → length (bytes_of ws) ≡ 4 * n
words_length ws n e = length_digits_of 256 4 ws ∙ ap (λ (k : ℕ). k * 4) e ∙ mul_comm n 4

pub constants_length : (keyLength : ℕ) (out : List ℕ) {n : ℕ} {bs : List ℕ}
    → constants_call keyLength out ≡ accepted n bs → length bs ≡ length out
unfolding constants_call constant_count
constants_length keyLength out a =
    let p = passed _ _ _ a in
    ap length (sym p.same_bytes) ∙ words_length _ _ (length_constants (key_permitted p.checks))
    ∙ sym (output_size out (pass_tail p.checks))

pub expand_key_length : (key : List ℕ) (way : ℕ) (out : List ℕ) {n : ℕ} {bs : List ℕ} → Below 256 key
    → expand_key_call key way out ≡ accepted n bs → length bs ≡ length out
unfolding expand_key_call expanded_count
expand_key_length key way out r a =
    let p = passed _ _ _ a in
    ap length (sym p.same_bytes) ∙ words_length _ _ (length_expand_key (key_permitted p.checks) r)
    ∙ sym (output_size out (pass_tail (pass_tail p.checks)))

module _ (words : List ℕ) (way : ℕ) (block out : List ℕ) {n : ℕ} {bs : List ℕ} (bytes : Below 256 words)
    (below : Below 256 block) where
  block_length : {F G : List ℕ → List ℕ} → Undone (Bytes 16) F G
      → judged (block_checks (words_and_way words way) block out) (accepted 1 (F block)) ≡ accepted n bs
      → length bs ≡ length out
  unfolding block_checks
  block_length u a =
      let p = passed _ _ _ a in
      ap length (sym p.same_bytes)
      ∙ (u.keeps block (record { size = block_size block (pass_tail (pass_tail p.checks)); below = below })).size
      ∙ sym (output_size out (pass_tail (pass_tail (pass_tail p.checks))))

  pub encrypt_block_length : encrypt_block_call words way block out ≡ accepted n bs → length bs ≡ length out
  unfolding encrypt_block_call
  encrypt_block_length = block_length (cipher_from_bytes bytes).encrypted

  pub decrypt_block_length : decrypt_block_call words way block out ≡ accepted n bs → length bs ≡ length out
  unfolding decrypt_block_call
  decrypt_block_length = block_length (cipher_from_bytes bytes).decrypted

module _ (words : List ℕ) (way : ℕ) (book out : List ℕ) {n : ℕ} {bs : List ℕ} (bytes : Below 256 words)
    (below : Below 256 book) where
  pub encrypt_book_length : encrypt_book_call words way book out ≡ accepted n bs → length bs ≡ length out
  unfolding encrypt_book_call
  encrypt_book_length a = encrypted_length _ _ (cipher_from_bytes bytes) _ book out below a

  pub decrypt_book_length : decrypt_book_call words way book out ≡ accepted n bs → length bs ≡ length out
  unfolding decrypt_book_call
  decrypt_book_length a = decrypted_length _ _ (cipher_from_bytes bytes) _ book out below a

pub crypt_note_length : (words : List ℕ) (way : ℕ) (counter note out : List ℕ) {n : ℕ} {bs : List ℕ}
    → crypt_note_call words way counter note out ≡ accepted n bs → length bs ≡ length out
unfolding crypt_note_call crypt_note_by
crypt_note_length words way counter note out a =
    let p = passed _ _ _ a in
    ap length (sym p.same_bytes) ∙ length_ctr (encrypt_under (words_from_bytes words)) counter note
    ∙ sym (note_passed (words_and_way words way) counter note out p.checks).room

-- A page has 32 bytes for each line that it counts.
pub page_length : (book : List ℕ) (i : ℕ) (out : List ℕ) {n : ℕ} {bs : List ℕ} → page_call book i out ≡ accepted n bs
    → (length bs ≡ length out) × (length bs ≡ 32 * n)
unfolding page_call
page_length book i out a =
    let p = passed (page_checks book i out) (line_count i book) (page i book) a in
    let l : length (page i book) ≡ 32 * line_count i book = length_page i book in (
      ap length (sym p.same_bytes) ∙ l ∙ sym (page_passed book i out p.checks).room,
      ap length (sym p.same_bytes) ∙ l ∙ ap (λ (k : ℕ). 32 * k) p.same_count,
    )
