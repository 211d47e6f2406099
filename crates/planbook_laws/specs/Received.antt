-- The demands, of what a C program receives: a call's number r and the output at exit. Of both a
-- call's contract states `Answers`, and nothing else of the call is used here. Keys, words, blocks
-- and books are lists of bytes: Below 256.
use Rattle.std.specs.Prelude.{ℕ, ◌*◌, ◌/◌, ◌^◌, ◌≤◌, ◌<◌, Bool, true, false, ◌&&◌, List, [], ◌∷◌, ◌↔◌, ◌⊎◌, ◌≡◌, eqb, leb}
use Rattle.std.proofs.Common.{inl, inr, ⊎_elim, sym, ap, subst, ◌∙◌, arith, leb-true}
use Rattle.std.proofs.Math.Path.{refl}
use Rattle.std.proofs.Math.Dec.{lit<}
use Rattle.std.proofs.Math.ListN.{length}
use Rattle.clefia_spec.specs.Cases.{both_true}
use Rattle.clefia_spec.specs.Words.{choose, by_key_length, Below}
use Rattle.clefia_spec.specs.Block.{encrypt_under, decrypt_under, encrypt}
use Rattle.planbook_spec.specs.Outcome.{Outcome, refused, accepted, answer, after, Answers, Check, check, judged}
use Rattle.planbook_spec.specs.OutcomeLaws.{AllPass, none, more, answers_equal, Accepted, accepting}
use Rattle.planbook_spec.specs.Checks.{key_check, way_check, block_check, output_check, words_check, words_from_bytes}
use Rattle.planbook_spec.specs.Checks.{words_and_way, constant_count, expanded_count, constants_call, expand_key_call}
use Rattle.planbook_spec.specs.Checks.{block_checks, encrypt_block_call, decrypt_block_call}
use Rattle.planbook_laws.specs.CheckLaws.{Way}
use Rattle.planbook_laws.specs.UnderKey.{Expanded, expanded, expanded_is, expanded_bytes, words_expanded}
use Rattle.planbook_spec.specs.Book.{sheet_body, form_checks, records_check, as_it_is, decrypt_body, book_checks}
use Rattle.planbook_spec.specs.Book.{encrypt_book_by, decrypt_book_by, encrypt_book_call, decrypt_book_call}
use Rattle.planbook_spec.specs.Note.{note_check, note_checks, crypt_note_by, crypt_note_call}
use Rattle.planbook_spec.specs.Page.{sheet_check, page_checks, page_call}
use Rattle.planbook_laws.specs.BookLaws.{formed_count}
use Rattle.planbook_laws.specs.BookCipher.{book_formed}
use Rattle.planbook_laws.specs.Demands.{demand2_decrypts_under, demand2_encrypts_under}
use Rattle.planbook_laws.specs.Demands.{demand2_block_decrypts_under, demand2_block_encrypts_under}
use Rattle.planbook_laws.specs.Demands.{EncryptedAlike, demand3_under}
use Rattle.planbook_laws.specs.NoteLaws.{note_passed, note_comes_back_under, notes_alike_under}
use Rattle.planbook_laws.specs.PageLaws.{page_passed, line_count_lem, pages_alike}

-- The highest number of a check.
abbrev pub last_check : ℕ
last_check = 14

-- An outcome whose number can be read: a check is one of those that exist, and a count is below
-- 2 ^ 32.
pub data Readable : Outcome → Type 0 where
  refusal : {c : ℕ} → 1 ≤ c → c ≤ last_check → Readable (refused c)
  acceptance : {n : ℕ} {bs : List ℕ} → n < 2 ^ 32 → Readable (accepted n bs)

-- ---- what r and exit say, whatever the call

-- A refusal, under the check r / 2 ^ 32, with the count 0 and the output as it was.
pub record Refusal (o : Outcome) (out : List ℕ) (r : ℕ) (exit : List ℕ) : Type 0 where
  pub outcome : o ≡ refused (r / 2 ^ 32)
  pub least : 1 ≤ r / 2 ^ 32
  pub most : r / 2 ^ 32 ≤ last_check
  pub number : r ≡ r / 2 ^ 32 * 2 ^ 32
  pub untouched : exit ≡ out

-- Acceptance: r is the count, and exit the bytes.
pub record Acceptance (o : Outcome) (r : ℕ) (exit : List ℕ) : Type 0 where
  pub outcome : o ≡ accepted r exit
  pub below : r < 2 ^ 32

pub received : {o : Outcome} → Readable o → {out : List ℕ} {r : ℕ} {exit : List ℕ} → Answers o out r exit
    → Refusal o out r exit ⊎ Acceptance o r exit
unfolding answer after
received (refusal {c = c} h k) {out} {r} a =
    let e : r ≡ c * 2 ^ 32 = a.number in
    let q : c ≡ r / 2 ^ 32 = omega arith in
    inl (record {
      outcome = ap refused q;
      least = omega arith;
      most = omega arith;
      number = omega arith;
      untouched =
          a.output;
    })
received (acceptance {n = n} h) {r = r} a = let e : r ≡ n = a.number in
    inr (record { outcome = cc a.output; below = omega arith })

-- A number below 2 ^ 32 is acceptance, and nothing else is.
pub accepts : {o : Outcome} → Readable o → {out : List ℕ} {r : ℕ} {exit : List ℕ} → Answers o out r exit → r < 2 ^ 32
    → o ≡ accepted r exit
accepts p a h = ⊎_elim (λ x. let z : ⊥ = omega (arith, x.least) in absurd z) (λ x. x.outcome) (received p a)

-- The number and the bytes of an outcome that is known to be accepted.
number_and_output : {o : Outcome} {n : ℕ} {bs out : List ℕ} {r : ℕ} {exit : List ℕ} → o ≡ accepted n bs
    → Answers o out r exit → (r ≡ n) × (exit ≡ bs)
unfolding answer after
number_and_output {out = out} e a = answers_equal a
    (record { number = sym (ap answer e); output = sym (ap (after out) e) })

-- ---- every call's outcome can be read

-- Every check of a list has one of the numbers 1 to the last: a test that computes, whichever of
-- them pass.
unfoldable numbered : List Check → Bool
numbered [] = true
numbered (check c b ∷ cs) = leb 1 c && leb c last_check && numbered cs

readable : (cs : List Check) (n : ℕ) (bs : List ℕ) → numbered cs ≡ true → (AllPass cs → n < 2 ^ 32)
    → Readable (judged cs (accepted n bs))
unfolding judged numbered
readable [] n bs e f = acceptance (f none)
readable (check c true ∷ cs) n bs e f = readable cs n bs (both_true (leb 1 c && leb c last_check) _ e).1
    (λ p. f (more p))
readable (check c false ∷ cs) n bs e f =
    let h : (leb 1 c ≡ true) × (leb c last_check ≡ true) =
    both_true (leb 1 c) (leb c last_check) (both_true (leb 1 c && leb c last_check) (numbered cs) e).0 in
    refusal (leb-true 1 c h.0) (leb-true c last_check h.1)

numbered_book : (words : List ℕ) (way kind : ℕ) (f : List ℕ → List ℕ → List ℕ) (book out : List ℕ)
    → numbered (book_checks (words_and_way words way) kind f book out) ≡ true
unfolding book_checks form_checks records_check words_check way_check output_check numbered
numbered_book words way kind f book out = refl

chosen_lt : (t : Bool) {a b m : ℕ} → a < m → b < m → choose t a b < m
chosen_lt true h k = h
chosen_lt false h k = k

count_lt : (n : ℕ) {a b c m : ℕ} → a < m → b < m → c < m → by_key_length n a b c < m
count_lt n h k l = chosen_lt (eqb n 16) h (chosen_lt (eqb n 24) k l)

pub readable_constants : (keyLength : ℕ) (out : List ℕ) → Readable (constants_call keyLength out)
unfolding constants_call key_check output_check constant_count numbered
readable_constants keyLength out = readable _ _ _ refl (λ p. count_lt keyLength (lit< tt) (lit< tt) (lit< tt))

pub readable_expand_key : (key : List ℕ) (way : ℕ) (out : List ℕ) → Readable (expand_key_call key way out)
unfolding expand_key_call key_check way_check output_check expanded_count numbered
readable_expand_key key way out = readable _ _ _ refl (λ p. count_lt (length key) (lit< tt) (lit< tt) (lit< tt))

module _ (words : List ℕ) (way : ℕ) where
  pub readable_encrypt_block : (block out : List ℕ) → Readable (encrypt_block_call words way block out)
  unfolding encrypt_block_call block_checks words_check way_check block_check output_check numbered
  readable_encrypt_block block out = readable _ _ _ refl (λ p. lit< tt)

  pub readable_decrypt_block : (block out : List ℕ) → Readable (decrypt_block_call words way block out)
  unfolding decrypt_block_call block_checks words_check way_check block_check output_check numbered
  readable_decrypt_block block out = readable _ _ _ refl (λ p. lit< tt)

  pub readable_encrypt_book : (book out : List ℕ) → Readable (encrypt_book_call words way book out)
  unfolding encrypt_book_call encrypt_book_by
  readable_encrypt_book book out = readable (book_checks (words_and_way words way) 1 as_it_is book out) _ _
      (numbered_book words way _ _ book out) (λ p. formed_count (book_formed _ _ _ book out p))

  pub readable_decrypt_book : (book out : List ℕ) → Readable (decrypt_book_call words way book out)
  unfolding decrypt_book_call decrypt_book_by
  readable_decrypt_book book out = readable
      (book_checks (words_and_way words way) 2 (decrypt_body (decrypt_under (words_from_bytes words))) book out) _ _
      (numbered_book words way _ _ book out) (λ p. formed_count (book_formed _ _ _ book out p))

  pub readable_crypt_note : (counter note out : List ℕ) → Readable (crypt_note_call words way counter note out)
  unfolding crypt_note_call crypt_note_by note_checks words_check way_check block_check output_check note_check numbered
  readable_crypt_note counter note out = readable _ _ _ refl
      (λ p. let s : length note ≤ 16384 = (note_passed (words_and_way words way) counter note out p).short in
      omega arith)

pub readable_page : (book : List ℕ) (i : ℕ) (out : List ℕ) → Readable (page_call book i out)
unfolding page_call page_checks form_checks records_check sheet_check output_check numbered
readable_page book i out = readable (page_checks book i out) _ _ refl (λ p. line_count_lem (page_passed book i out p))

-- ---- demand 2: under the same words, where the first number is below 2 ^ 32, the other call gives
-- the number and the bytes back

module _ (words : List ℕ) (bytes : Below 256 words) (way way' : ℕ) (permitted : Way way') (src out out' : List ℕ)
    (below : Below 256 src) {r r' : ℕ} {exit exit' : List ℕ} (small : r < 2 ^ 32) where
  pub demand2_decrypts_under_received : Answers (encrypt_book_call words way src out) out r exit
      → length out' ≡ length src
      → Answers (decrypt_book_call words way' exit out') out' r' exit' → (r' ≡ r) × (exit' ≡ src)
  demand2_decrypts_under_received a e = number_and_output
      (demand2_decrypts_under words bytes way way' permitted src out out' below
      (accepts (readable_encrypt_book words way src out) a small) e)

  pub demand2_encrypts_under_received : Answers (decrypt_book_call words way src out) out r exit
      → length out' ≡ length src
      → Answers (encrypt_book_call words way' exit out') out' r' exit' → (r' ≡ r) × (exit' ≡ src)
  demand2_encrypts_under_received a e = number_and_output
      (demand2_encrypts_under words bytes way way' permitted src out out' below
      (accepts (readable_decrypt_book words way src out) a small) e)

  pub demand2_block_decrypts_under_received : Answers (encrypt_block_call words way src out) out r exit
      → length out' ≡ 16
      → Answers (decrypt_block_call words way' exit out') out' r' exit' → (r' ≡ r) × (exit' ≡ src)
  demand2_block_decrypts_under_received a e =
      number_and_output (demand2_block_decrypts_under words bytes way way' permitted src out out' below e
      (accepts (readable_encrypt_block words way src out) a small))

  pub demand2_block_encrypts_under_received : Answers (decrypt_block_call words way src out) out r exit
      → length out' ≡ 16
      → Answers (encrypt_block_call words way' exit out') out' r' exit' → (r' ≡ r) × (exit' ≡ src)
  demand2_block_encrypts_under_received a e =
      number_and_output (demand2_block_encrypts_under words bytes way way' permitted src out out' below e
      (accepts (readable_decrypt_block words way src out) a small))

-- ---- demand 3: the two outputs at exit, where both numbers are below 2 ^ 32

accepted_outcome : {o : Outcome} {n : ℕ} {bs : List ℕ} → o ≡ accepted n bs → Accepted o
accepted_outcome e = subst Accepted (sym e) (accepting _ _)

pub demand3_under_received : (words : List ℕ) → Below 256 words → (way way' : ℕ) (a b out out' : List ℕ) → Below 256 a
    → Below 256 b → {r r' : ℕ} {x y : List ℕ}
    → Answers (encrypt_book_call words way a out) out r x → r < 2 ^ 32
    → Answers (encrypt_book_call words way' b out') out' r' y → r' < 2 ^ 32
    → EncryptedAlike (encrypt_under (words_from_bytes words)) a b x y
demand3_under_received words bytes way way' a b out out' ra rb pa ha pb hb =
    rw (pa.output, pb.output)
    (demand3_under words bytes way way' a b out out' ra rb
    (accepted_outcome (accepts (readable_encrypt_book words way a out) pa ha))
    (accepted_outcome (accepts (readable_encrypt_book words way' b out') pb hb)))

-- ---- notes: what the call has made of one comes back, and two under the same words and one first
-- counter block are equal exactly where their texts are

module _ (words : List ℕ) (way way' : ℕ) (counter : List ℕ) {r r' : ℕ} {x y : List ℕ} where
  pub note_comes_back_under_received : Way way' → (note out out' : List ℕ)
      → Answers (crypt_note_call words way counter note out) out r x → r < 2 ^ 32 → length out' ≡ length note
      → Answers (crypt_note_call words way' counter x out') out' r' y → (r' ≡ r) × (y ≡ note)
  note_comes_back_under_received permitted note out out' a h e =
      number_and_output (note_comes_back_under words way way' counter permitted note out out'
      (accepts (readable_crypt_note words way counter note out) a h) e)

  pub notes_alike_under_received : (a b out out' : List ℕ) → Answers (crypt_note_call words way counter a out) out r x
      → r < 2 ^ 32
      → Answers (crypt_note_call words way' counter b out') out' r' y → r' < 2 ^ 32 → (x ≡ y) ↔ (a ≡ b)
  notes_alike_under_received a b out out' pa ha pb hb =
      rw (pa.output, pb.output)
      (notes_alike_under words way way' counter a b out out'
      (accepted_outcome (accepts (readable_crypt_note words way counter a out) pa ha))
      (accepted_outcome (accepts (readable_crypt_note words way' counter b out') pb hb)))

-- ---- under one key: the words that the call for it gave, where its number was below 2 ^ 32

pub expanded_received : (key : List ℕ) (way : ℕ) (out : List ℕ) {r : ℕ} {words : List ℕ}
    → Answers (expand_key_call key way out) out r words → r < 2 ^ 32 → Expanded key words
expanded_received key way out a small = expanded way out (accepts (readable_expand_key key way out) a small)

-- What a call answers under them, it answers under those that were expanded once more.
module _ {key words words' : List ℕ} (made : Expanded key words) (made' : Expanded key words') (o : List ℕ → Outcome)
    {out : List ℕ} {r : ℕ} {exit : List ℕ} where
  as_first : Answers (o words') out r exit → Answers (o words) out r exit
  as_first a = rw (sym (expanded_is made) ∙ expanded_is made') a

module _ (key : List ℕ) {words words' : List ℕ} (made : Expanded key words) (made' : Expanded key words') (way way' : ℕ)
    (permitted : Way way') (src out out' : List ℕ) (below : Below 256 src) {r r' : ℕ} {exit exit' : List ℕ}
    (small : r < 2 ^ 32) where
  pub demand2_decrypts_received : Answers (encrypt_book_call words way src out) out r exit → length out' ≡ length src
      → Answers (decrypt_book_call words' way' exit out') out' r' exit' → (r' ≡ r) × (exit' ≡ src)
  demand2_decrypts_received a e b =
      demand2_decrypts_under_received words (expanded_bytes made) way way' permitted src out out' below small a e
      (as_first made made' (λ (w : List ℕ). decrypt_book_call w way' exit out') b)

  pub demand2_encrypts_received : Answers (decrypt_book_call words way src out) out r exit → length out' ≡ length src
      → Answers (encrypt_book_call words' way' exit out') out' r' exit' → (r' ≡ r) × (exit' ≡ src)
  demand2_encrypts_received a e b =
      demand2_encrypts_under_received words (expanded_bytes made) way way' permitted src out out' below small a e
      (as_first made made' (λ (w : List ℕ). encrypt_book_call w way' exit out') b)

  pub demand2_block_decrypts_received : Answers (encrypt_block_call words way src out) out r exit → length out' ≡ 16
      → Answers (decrypt_block_call words' way' exit out') out' r' exit' → (r' ≡ r) × (exit' ≡ src)
  demand2_block_decrypts_received a e b =
      demand2_block_decrypts_under_received words (expanded_bytes made) way way' permitted src out out' below small a e
      (as_first made made' (λ (w : List ℕ). decrypt_block_call w way' exit out') b)

  pub demand2_block_encrypts_received : Answers (decrypt_block_call words way src out) out r exit → length out' ≡ 16
      → Answers (encrypt_block_call words' way' exit out') out' r' exit' → (r' ≡ r) × (exit' ≡ src)
  demand2_block_encrypts_received a e b =
      demand2_block_encrypts_under_received words (expanded_bytes made) way way' permitted src out out' below small a e
      (as_first made made' (λ (w : List ℕ). encrypt_block_call w way' exit out') b)

pub demand3_received : (key : List ℕ) → Below 256 key → {words words' : List ℕ} → Expanded key words
    → Expanded key words' → (way way' : ℕ) (a b out out' : List ℕ) → Below 256 a → Below 256 b
    → {r r' : ℕ} {x y : List ℕ}
    → Answers (encrypt_book_call words way a out) out r x → r < 2 ^ 32
    → Answers (encrypt_book_call words' way' b out') out' r' y → r' < 2 ^ 32 → EncryptedAlike (encrypt key) a b x y
unfolding encrypt
demand3_received key bytes {words} made made' way way' a b out out' ra rb pa ha pb hb =
    rw (words_expanded bytes made) at
    (demand3_under_received words (expanded_bytes made) way way' a b out out' ra rb pa ha
    (as_first made made' (λ (w : List ℕ). encrypt_book_call w way' b out') pb) hb)

module _ (key : List ℕ) {words words' : List ℕ} (made : Expanded key words) (made' : Expanded key words') (way way' : ℕ)
    (counter : List ℕ) {r r' : ℕ} {x y : List ℕ} where
  pub note_comes_back_received : Way way' → (note out out' : List ℕ)
      → Answers (crypt_note_call words way counter note out) out r x → r < 2 ^ 32 → length out' ≡ length note
      → Answers (crypt_note_call words' way' counter x out') out' r' y → (r' ≡ r) × (y ≡ note)
  note_comes_back_received permitted note out out' a h e b =
      note_comes_back_under_received words way way' counter permitted note out out' a h e
      (as_first made made' (λ (w : List ℕ). crypt_note_call w way' counter x out') b)

  pub notes_alike_received : (a b out out' : List ℕ) → Answers (crypt_note_call words way counter a out) out r x
      → r < 2 ^ 32
      → Answers (crypt_note_call words' way' counter b out') out' r' y → r' < 2 ^ 32 → (x ≡ y) ↔ (a ≡ b)
  notes_alike_received a b out out' pa ha pb hb =
      notes_alike_under_received words way way' counter a b out out' pa ha
      (as_first made made' (λ (w : List ℕ). crypt_note_call w way' counter b out') pb) hb

-- ---- pages: those of two sheets are equal exactly where their bodies are

pub pages_alike_received : (book book' : List ℕ) (i i' : ℕ) (out out' : List ℕ) → Below 256 book → Below 256 book'
    → {r r' : ℕ} {x y : List ℕ}
    → Answers (page_call book i out) out r x → r < 2 ^ 32
    → Answers (page_call book' i' out') out' r' y → r' < 2 ^ 32 → (x ≡ y) ↔ (sheet_body i book ≡ sheet_body i' book')
pages_alike_received book book' i i' out out' below below' pa ha pb hb =
    rw (pa.output, pb.output)
    (pages_alike book book' i i' out out' below below'
    (accepted_outcome (accepts (readable_page book i out) pa ha))
    (accepted_outcome (accepts (readable_page book' i' out') pb hb)))
