-- The calls under the words of a key. What planbook_expand_key has written for a key, by whichever
-- way, is passed to a call, by whichever way: the call comes to what the definitions give under
-- that key.
use Rattle.std.specs.Prelude.{ℕ, ◌*◌, ◌/◌, List, [], ◌∷◌, ◌++◌, ◌≡◌}
use Rattle.std.proofs.Common.{sym, ap, subst, ◌∙◌, arith, lit<}
use Rattle.std.proofs.Math.ListN.{length}
use Rattle.clefia_spec.specs.Words.{bytes_of, by_key_length, KeyLength, sixteen, twenty_four, thirty_two, Below}
use Rattle.clefia_spec.specs.KeySchedule.{expand_key}
use Rattle.clefia_spec.specs.Block.{encrypt, decrypt}
use Rattle.clefia_laws.specs.SizedLaws.{Words}
use Rattle.clefia_laws.specs.DigitLaws.{length_digits_of, numbers_digits, below_digits_of}
use Rattle.clefia_laws.specs.KeyLaws.{words_expand_key}
use Rattle.planbook_spec.specs.Outcome.{Outcome, accepted, Check, judged}
use Rattle.planbook_spec.specs.OutcomeLaws.{judged_append, judged_pass, passed}
use Rattle.planbook_spec.specs.Checks.{way_check, words_check, words_from_bytes, words_and_way, expand_key_call, block_checks}
use Rattle.planbook_spec.specs.Checks.{encrypt_block_call, decrypt_block_call}
use Rattle.planbook_laws.specs.CheckLaws.{key_permitted, WordsLength, forty, forty_eight, fifty_six, words_passes}
use Rattle.planbook_spec.specs.Book.{book_checks, encrypt_book_by, decrypt_book_by, encrypt_book_call, decrypt_book_call}
use Rattle.planbook_spec.specs.Note.{note_checks, crypt_note_by, crypt_note_call}

-- The call that expands a key was accepted, by some way, and wrote these bytes.
pub data Expanded (key words : List ℕ) : Type 0 where
  expanded : (way : ℕ) (out : List ℕ) {n : ℕ} → expand_key_call key way out ≡ accepted n words → Expanded key words

pub expanded_is : {key words : List ℕ} → Expanded key words → bytes_of (expand_key key) ≡ words
unfolding expand_key_call
expanded_is (expanded way out e) = (passed _ _ _ e).same_bytes

expanded_key : {key words : List ℕ} → Expanded key words → KeyLength (length key)
unfolding expand_key_call
expanded_key (expanded way out e) = key_permitted (passed _ _ _ e).checks

-- One key has the same words by every way, and they are bytes.
pub same_words : {key words words' : List ℕ} → Expanded key words → Expanded key words' → words ≡ words'
same_words e e' = sym (expanded_is e) ∙ expanded_is e'

pub expanded_bytes : {key words : List ℕ} → Expanded key words → Below 256 words
expanded_bytes {key} e = subst (Below 256) (expanded_is e) (below_digits_of (lit< tt) 4 (expand_key key))

-- How many words they are, and that a call reads exactly the definition's words out of the bytes.
module _ {key words : List ℕ} (bytes : Below 256 key) (e : Expanded key words) where
  expanded_words : Words (by_key_length (length key) 40 48 56) (expand_key key)
  expanded_words = words_expand_key (expanded_key e) bytes

  byte_count : length words ≡ by_key_length (length key) 40 48 56 * 4
  byte_count = ap length (sym (expanded_is e)) ∙ length_digits_of 256 4 (expand_key key)
      ∙ ap (λ (n : ℕ). n * 4) expanded_words.size

  pub expanded_permitted : WordsLength (length words)
  expanded_permitted = subst WordsLength (sym byte_count) (permitted (expanded_key e))
    where
      permitted : {n : ℕ} → KeyLength n → WordsLength (by_key_length n 40 48 56 * 4)
      permitted sixteen = forty
      permitted twenty_four = forty_eight
      permitted thirty_two = fifty_six

  pub words_expanded : words_from_bytes words ≡ expand_key key
  unfolding words_from_bytes
  words_expanded =
      let count : length words / 4 ≡ length (expand_key key) = omega (arith, byte_count, expanded_words.size) in
      rw (count, ← expanded_is e) (numbers_digits (lit< tt) 4 expanded_words.below)

  -- Check 14 is passed, so it may be left out.
  words_left_out : (way : ℕ) (cs : List Check) (o : Outcome)
      → judged (words_and_way words way ++ cs) o ≡ judged (way_check way ∷ cs) o
  words_left_out way cs o = judged_append (words_check (length words) ∷ []) (way_check way ∷ cs) o
      ∙ judged_pass (words_passes expanded_permitted) _

  pub encrypt_block_under_key : (way : ℕ) (block out : List ℕ)
      → encrypt_block_call words way block out ≡ judged (block_checks (way_check way ∷ []) block out)
      (accepted 1 (encrypt key block))
  unfolding encrypt_block_call block_checks encrypt
  encrypt_block_under_key way block out = rw (words_left_out way, words_expanded)

  pub decrypt_block_under_key : (way : ℕ) (block out : List ℕ)
      → decrypt_block_call words way block out ≡ judged (block_checks (way_check way ∷ []) block out)
      (accepted 1 (decrypt key block))
  unfolding decrypt_block_call block_checks decrypt
  decrypt_block_under_key way block out = rw (words_left_out way, words_expanded)

  pub encrypt_book_under_key : (way : ℕ) (book out : List ℕ)
      → encrypt_book_call words way book out ≡ encrypt_book_by (way_check way ∷ []) (encrypt key) book out
  unfolding encrypt_book_call encrypt_book_by book_checks encrypt
  encrypt_book_under_key way book out = rw (words_left_out way, words_expanded)

  pub decrypt_book_under_key : (way : ℕ) (book out : List ℕ)
      → decrypt_book_call words way book out ≡ decrypt_book_by (way_check way ∷ []) (decrypt key) book out
  unfolding decrypt_book_call decrypt_book_by book_checks decrypt
  decrypt_book_under_key way book out = rw (words_left_out way, words_expanded)

  pub crypt_note_under_key : (way : ℕ) (counter note out : List ℕ)
      → crypt_note_call words way counter note out ≡ crypt_note_by (way_check way ∷ []) (encrypt key) counter note out
  unfolding crypt_note_call crypt_note_by note_checks encrypt
  crypt_note_under_key way counter note out = rw (words_left_out way, words_expanded)
