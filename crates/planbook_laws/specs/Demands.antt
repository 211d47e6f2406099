-- The three demands, of what the calls answer. A call's contract says that its number and its
-- output are those of the outcome named here, so these theorems hold of the program. Keys, words,
-- books and blocks are lists of bytes: Below 256. Demands 2 and 3 are shown under any words of a
-- permitted count, and then, as corollaries under their old names, under one key: the words passed
-- are those that the call for it has written.
use Rattle.std.specs.Prelude.{ℕ, ◌*◌, ◌^◌, List, [], ◌∷◌, ◌++◌, ◌↔◌, ◌≡◌, length}
use Rattle.std.proofs.Math.Path.{ap}
use Rattle.std.proofs.Common.{sym, ◌∙◌, lit<}
use Rattle.clefia_spec.specs.Words.{from_digits, bytes_of, Below}
use Rattle.clefia_spec.specs.Constants.{constants}
use Rattle.clefia_spec.specs.KeySchedule.{expand_key}
use Rattle.clefia_spec.specs.Block.{encrypt_under, decrypt_under, encrypt}
use Rattle.clefia_laws.specs.BlockLaws.{decrypt_undoes_encrypt_under, encrypt_undoes_decrypt_under}
use Rattle.clefia_laws.specs.DigitLaws.{below_numbers_of}
use Rattle.clefia_laws.specs.SizedLaws.{Bytes, Undone}
use Rattle.planbook_spec.specs.Outcome.{accepted, after, judged}
use Rattle.planbook_spec.specs.OutcomeLaws.{none, more, pass_tail, pass_append, judged_pass, Passed, passed, Accepted}
use Rattle.planbook_spec.specs.OutcomeLaws.{accepted_is, Judges, judges}
use Rattle.planbook_spec.specs.Checks.{key_check, output_check, words_from_bytes, key_and_way, words_and_way, constant_count}
use Rattle.planbook_spec.specs.Checks.{expanded_count, constants_call, expand_key_call, block_checks, encrypt_block_call}
use Rattle.planbook_spec.specs.Checks.{decrypt_block_call}
use Rattle.planbook_laws.specs.CheckLaws.{Way, WordsLength, block_size, block_passes, output_passes}
use Rattle.planbook_laws.specs.CheckLaws.{words_and_way_passes, words_again}
use Rattle.planbook_laws.specs.UnderKey.{Expanded, expanded_is, expanded_bytes, words_expanded}
use Rattle.planbook_spec.specs.Book.{number, pieces, entries_hold, contents, record_count, form_checks, each_body}
use Rattle.planbook_spec.specs.Book.{sheets_hold, records_check, as_it_is, decrypt_body, map_bodies, book_checks}
use Rattle.planbook_spec.specs.Book.{encrypt_book_by, decrypt_book_by, encrypted_book, decrypted_book, encrypt_book_call}
use Rattle.planbook_spec.specs.Book.{decrypt_book_call}
use Rattle.planbook_laws.specs.Undoing.{BlockCipher}
use Rattle.planbook_laws.specs.BookCipher.{encrypted_decrypts, decrypted_encrypts, encrypted_is, encrypted_alike}

-- ---- demand 1: each call is refused under c exactly where c is the first of its checks that
-- fails, and else it is accepted, with the count and the bytes named here. (OutcomeLaws: what a
-- refusal answers, and that it leaves the output as it was.)

pub demand1_constants : (keyLength : ℕ) (out : List ℕ)
    → Judges (key_check keyLength ∷ output_check (4 * constant_count keyLength) out ∷ []) (constant_count keyLength)
    (bytes_of (constants keyLength)) (constants_call keyLength out)
unfolding constants_call
demand1_constants keyLength out = judges _ _ _

pub demand1_expand_key : (key : List ℕ) (way : ℕ) (out : List ℕ)
    → Judges (key_and_way key way ++ (output_check (4 * expanded_count (length key)) out ∷ []))
    (expanded_count (length key))
    (bytes_of (expand_key key)) (expand_key_call key way out)
unfolding expand_key_call
demand1_expand_key key way out = judges _ _ _

pub demand1_encrypt_block : (words : List ℕ) (way : ℕ) (block out : List ℕ)
    → Judges (block_checks (words_and_way words way) block out) 1 (encrypt_under (words_from_bytes words) block)
    (encrypt_block_call words way block out)
unfolding encrypt_block_call
demand1_encrypt_block words way block out = judges _ _ _

pub demand1_decrypt_block : (words : List ℕ) (way : ℕ) (block out : List ℕ)
    → Judges (block_checks (words_and_way words way) block out) 1 (decrypt_under (words_from_bytes words) block)
    (decrypt_block_call words way block out)
unfolding decrypt_block_call
demand1_decrypt_block words way block out = judges _ _ _

pub demand1_encrypt_book : (words : List ℕ) (way : ℕ) (book out : List ℕ)
    → Judges (book_checks (words_and_way words way) 1 as_it_is book out) (record_count (contents book))
    (encrypted_book (encrypt_under (words_from_bytes words)) book) (encrypt_book_call words way book out)
unfolding encrypt_book_call encrypt_book_by encrypted_book
demand1_encrypt_book words way book out = judges _ _ _

pub demand1_decrypt_book : (words : List ℕ) (way : ℕ) (book out : List ℕ)
    → Judges (book_checks (words_and_way words way) 2 (decrypt_body (decrypt_under (words_from_bytes words))) book out)
    (record_count (contents book)) (decrypted_book (decrypt_under (words_from_bytes words)) book)
    (decrypt_book_call words way book out)
unfolding decrypt_book_call decrypt_book_by decrypted_book
demand1_decrypt_book words way book out = judges _ _ _

-- ---- the cipher: CLEFIA under any words

pub cipher_under : {w : List ℕ} → Below (2 ^ 32) w → BlockCipher (encrypt_under w) (decrypt_under w)
cipher_under h = record { encrypted = decrypt_undoes_encrypt_under h; decrypted = encrypt_undoes_decrypt_under h }

-- The words that a call is given.
pub cipher_from_bytes : {words : List ℕ} → Below 256 words
    → BlockCipher (encrypt_under (words_from_bytes words)) (decrypt_under (words_from_bytes words))
unfolding words_from_bytes
cipher_from_bytes h = cipher_under (below_numbers_of (lit< tt) 4 _ h)

-- ---- demand 2: under the same words, what one call has made the other undoes, by any of the ways
-- each time. (That blocks, keys and chains are those of CLEFIA and of CBC is in the definitions
-- that the outcomes name.)

module _ (words : List ℕ) (bytes : Below 256 words) (way way' : ℕ) (permitted : Way way') where
  -- A sealed book opens to the clear book.
  pub demand2_decrypts_under : (book out out' : List ℕ) {n : ℕ} {encrypted : List ℕ} → Below 256 book
      → encrypt_book_call words way book out ≡ accepted n encrypted
      → length out' ≡ length book → decrypt_book_call words way' encrypted out' ≡ accepted n book
  unfolding encrypt_book_call encrypt_book_by book_checks decrypt_book_call
  demand2_decrypts_under book out out' r a e =
      encrypted_decrypts _ _ (cipher_from_bytes bytes) (words_and_way words way)
      (words_and_way words way') book out out' r a
      (words_again words (passed _ _ _ a).checks permitted) e

  -- An opened book seals to the same sealed bytes.
  pub demand2_encrypts_under : (book out out' : List ℕ) {n : ℕ} {decrypted : List ℕ} → Below 256 book
      → decrypt_book_call words way book out ≡ accepted n decrypted
      → length out' ≡ length book → encrypt_book_call words way' decrypted out' ≡ accepted n book
  unfolding decrypt_book_call decrypt_book_by book_checks encrypt_book_call
  demand2_encrypts_under book out out' r a e =
      decrypted_encrypts _ _ (cipher_from_bytes bytes) (words_and_way words way)
      (words_and_way words way') book out out' r a
      (words_again words (passed _ _ _ a).checks permitted) e

  -- So with single blocks: what one call has made, by F, the other one, by G, undoes.
  block_comes_back : {F G : List ℕ → List ℕ} → Undone (Bytes 16) F G → (block out out' : List ℕ) {n : ℕ} {bs : List ℕ}
      → Below 256 block → length out' ≡ 16
      → judged (block_checks (words_and_way words way) block out) (accepted 1 (F block)) ≡ accepted n bs
      → judged (block_checks (words_and_way words way') bs out') (accepted 1 (G bs)) ≡ accepted n block
  unfolding block_checks
  block_comes_back {F} u block out out' {n} {bs} below room a =
      let p : Passed (block_checks (words_and_way words way) block out) 1 n _ bs = passed _ _ _ a in
      let b : Bytes 16 block = record { size = block_size block (pass_tail (pass_tail p.checks)); below = below } in
      rw (← p.same_bytes, ← p.same_count)
      (judged_pass (pass_append (words_again words p.checks permitted)
      (pass_append (block_passes (F block) (u.keeps block b).size) (output_passes 16 out' room))) _
      ∙ ap (accepted 1) (u.back block b))

  pub demand2_block_decrypts_under : (block out out' : List ℕ) {n : ℕ} {bs : List ℕ} → Below 256 block
      → length out' ≡ 16
      → encrypt_block_call words way block out ≡ accepted n bs → decrypt_block_call words way' bs out'
      ≡ accepted n block
  unfolding encrypt_block_call decrypt_block_call
  demand2_block_decrypts_under = block_comes_back (cipher_from_bytes bytes).encrypted

  pub demand2_block_encrypts_under : (block out out' : List ℕ) {n : ℕ} {bs : List ℕ} → Below 256 block
      → length out' ≡ 16
      → decrypt_block_call words way block out ≡ accepted n bs → encrypt_block_call words way' bs out'
      ≡ accepted n block
  unfolding encrypt_block_call decrypt_block_call
  demand2_block_encrypts_under = block_comes_back (cipher_from_bytes bytes).decrypted

-- Under one key: the first call is given words of the key, and the second one the same or those
-- that were expanded once more, by whichever way.
module _ (key : List ℕ) {words words' : List ℕ} (made : Expanded key words) (made' : Expanded key words') (way way' : ℕ)
    (permitted : Way way') where
  same : words' ≡ words
  same = sym (expanded_is made') ∙ expanded_is made

  pub demand2_decrypts : (book out out' : List ℕ) {n : ℕ} {encrypted : List ℕ} → Below 256 book
      → encrypt_book_call words way book out ≡ accepted n encrypted
      → length out' ≡ length book → decrypt_book_call words' way' encrypted out' ≡ accepted n book
  demand2_decrypts book out out' r a e = rw same
      (demand2_decrypts_under words (expanded_bytes made) way way' permitted book out out' r a e)

  pub demand2_encrypts : (book out out' : List ℕ) {n : ℕ} {decrypted : List ℕ} → Below 256 book
      → decrypt_book_call words way book out ≡ accepted n decrypted
      → length out' ≡ length book → encrypt_book_call words' way' decrypted out' ≡ accepted n book
  demand2_encrypts book out out' r a e = rw same
      (demand2_encrypts_under words (expanded_bytes made) way way' permitted book out out' r a e)

  pub demand2_block_decrypts : (block out out' : List ℕ) {n : ℕ} {bs : List ℕ} → Below 256 block → length out' ≡ 16
      → encrypt_block_call words way block out ≡ accepted n bs → decrypt_block_call words' way' bs out'
      ≡ accepted n block
  demand2_block_decrypts block out out' r e a =
      rw same (demand2_block_decrypts_under words (expanded_bytes made) way way' permitted block out out' r e a)

  pub demand2_block_encrypts : (block out out' : List ℕ) {n : ℕ} {bs : List ℕ} → Below 256 block → length out' ≡ 16
      → decrypt_block_call words way block out ≡ accepted n bs → encrypt_block_call words' way' bs out'
      ≡ accepted n block
  demand2_block_encrypts block out out' r e a =
      rw same (demand2_block_encrypts_under words (expanded_bytes made) way way' permitted block out out' r e a)

-- ---- demand 3: of two clear books a and b that sealing accepts under the same words, each by
-- whichever way. A sealed book is the whole output afterwards; E is what each must be made by.

pub record EncryptedAlike (E : List ℕ → List ℕ) (a b x y : List ℕ) : Type 0 where
  pub alike : (x ≡ y) ↔ (a ≡ b)
  pub first : x ≡ encrypted_book E a
  pub second : y ≡ encrypted_book E b

-- The two are made by the cipher's data part under the words given.
pub demand3_under : (words : List ℕ) → Below 256 words → (way way' : ℕ) (a b out out' : List ℕ) → Below 256 a
    → Below 256 b
    → Accepted (encrypt_book_call words way a out) → Accepted (encrypt_book_call words way' b out')
    → EncryptedAlike (encrypt_under (words_from_bytes words)) a b (after out (encrypt_book_call words way a out))
    (after out' (encrypt_book_call words way' b out'))
unfolding encrypt_book_call encrypted_book
demand3_under words bytes way way' a b out out' ra rb pa pb =
    let ea : encrypt_book_call words way a out ≡ accepted _ (after out (encrypt_book_call words way a out)) =
    accepted_is pa out in
    let eb : encrypt_book_call words way' b out' ≡ accepted _ (after out' (encrypt_book_call words way' b out')) =
    accepted_is pb out' in
    let c : BlockCipher (encrypt_under (words_from_bytes words)) (decrypt_under (words_from_bytes words)) =
    cipher_from_bytes bytes in
    record {
      alike = encrypted_alike _ _ c (words_and_way words way) (words_and_way words way') a b out out' ra rb ea eb;
      first = encrypted_is _ _ c (words_and_way words way) a out ea;
      second = encrypted_is _ _ c (words_and_way words way') b out' eb;
    }

-- Under one key, whose words were expanded for each of the two by whichever way: they are made by
-- the cipher under the key.
pub demand3 : (key : List ℕ) → Below 256 key → {words words' : List ℕ} → Expanded key words → Expanded key words'
    → (way way' : ℕ) (a b out out' : List ℕ) → Below 256 a → Below 256 b
    → Accepted (encrypt_book_call words way a out) → Accepted (encrypt_book_call words' way' b out')
    → EncryptedAlike (encrypt key) a b (after out (encrypt_book_call words way a out))
    (after out' (encrypt_book_call words' way' b out'))
unfolding encrypt
demand3 key bytes {words} made made' way way' a b out out' ra rb pa pb =
    rw (sym (expanded_is made') ∙ expanded_is made)
    (rw (words_expanded bytes made) at
    (demand3_under words (expanded_bytes made) way way' a b out out' ra rb pa (rw (sym (expanded_is made')
    ∙ expanded_is made) at pb)))

-- The empty book, under any words of a permitted count and by any way: it is sealed to its head
-- with another first byte, with the count 0.
pub empty_book : (words out : List ℕ) {way : ℕ} → WordsLength (length words) → Way way → length out ≡ 4
    → encrypt_book_call words way (1 ∷ 0 ∷ 0 ∷ 0 ∷ []) out ≡ accepted 0 (2 ∷ 0 ∷ 0 ∷ 0 ∷ [])
unfolding from_digits number pieces entries_hold record_count form_checks each_body sheets_hold records_check
    map_bodies book_checks encrypt_book_by encrypt_book_call
empty_book words out k w e =
    judged_pass (pass_append (words_and_way_passes words k w)
    (pass_append (output_passes 4 out e) (more (more (more (more (more (more (more none))))))))) _
