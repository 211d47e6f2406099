-- A counter block as four words, and the block of a note that it is added to.
use Rattle.std.specs.Prelude.{◌≡◌, ℕ, ◌+◌, ◌*◌, ◌%◌, ◌^◌, ◌<◌, ◌≤◌, List, [], ◌∷◌, length, take, drop, slice_index, refl}
use Rattle.std.proofs.Common.{sym, ap, subst, ◌∙◌, mod-lt, arith, lit<, length-drop}
use Rattle.clefia_spec.specs.Words.{to_digits, digits_of, bytes_of, words_of, xors, Below, none, more}
use Rattle.clefia_spec.specs.Block.{encrypt_words, encrypt_under}
use Rattle.clefia_laws.specs.DigitLaws.{below_get_d, below_drop, digits_of_xors}
use Rattle.clefia_laws.specs.SizedLaws.{Words}
use Rattle.clefia_laws.specs.BlockLaws.{word_back, block_words, bytes_of_words, block_at, words_of_block}
use Rattle.clefia_laws.specs.BlockLaws.{words_encrypt_words}
use Rattle.cipher_bytes.specs.ListLaws.{spelled, spell}
use Rattle.cipher_network4_four_way.specs.declared.FourStates.{FourStates}
use Rattle.cipher_network4_four_way.specs.Four.{each}
use Rattle.planbook_spec.specs.Book.{number}
use Rattle.planbook_spec.specs.Note.{counter_block, ctr}
use Rattle.planbook_laws.specs.NoteLaws.{ctr_block}

-- The first three words stay, and the last one counts.
unfoldable pub counter_state : List ℕ → ℕ → List ℕ
counter_state s i = slice_index s 0 ∷ slice_index s 1 ∷ slice_index s 2 ∷ (slice_index s 3 + i) % 2 ^ 32 ∷ []

-- Four counter blocks that follow each other, encrypted.
abbrev pub encrypted_four : List ℕ → List ℕ → ℕ → FourStates
encrypted_four w s i =
    each (encrypt_words w) (record {
      a = counter_state s i;
      b = counter_state s (i + 1);
      c = counter_state s (i + 2);
      d =
          counter_state s (i + 3);
    })

words_counter : {s : List ℕ} → Words 4 s → (i : ℕ) → Words 4 (counter_state s i)
unfolding counter_state
words_counter {s} h i =
    let at : (k : ℕ) → slice_index s k < 2 ^ 32 = λ k. below_get_d (lit< tt) h.below k in
    record {
      size = refl;
      below = more (at 0)
          (more (at 1) (more (at 2) (more (mod-lt (slice_index s 3 + i) (lit< tt)) none)));
    }

-- Its bytes are the counter block.
bytes_counter : (a b c d i : ℕ) → d < 2 ^ 32
    → counter_block (bytes_of (a ∷ b ∷ c ∷ d ∷ [])) i ≡ bytes_of (a ∷ b ∷ c ∷ (d + i) % 2 ^ 32 ∷ [])
unfolding counter_block number digits_of to_digits
bytes_counter a b c d i h = rw (word_back d h)

counter_bytes : {s : List ℕ} → Words 4 s → (i : ℕ) → counter_block (bytes_of s) i ≡ bytes_of (counter_state s i)
unfolding counter_state spelled
counter_bytes {s} h i =
    subst (λ (t : List ℕ). counter_block (bytes_of t) i ≡ bytes_of (counter_state t i)) (sym (spell 4 s h.size))
    (bytes_counter _ _ _ _ i (below_get_d (lit< tt) (below_drop 1 (below_drop 1 (below_drop 1 h.below))) 0))

-- ---- under an expanded key w, from the counter block of the state s

module _ {w s : List ℕ} (words : Below (2 ^ 32) w) (state : Words 4 s) where
  pub counter_encrypted : (i : ℕ) → Words 4 (encrypt_words w (counter_state s i))
  counter_encrypted i = words_encrypt_words words (words_counter state i)

  encrypted : (i : ℕ) → encrypt_under w (counter_block (bytes_of s) i) ≡ bytes_of (encrypt_words w (counter_state s i))
  unfolding encrypt_under
  encrypted i = rw (counter_bytes state i, block_words (words_counter state i))

  -- A block of the note, or the part that there is of it.
  pub crypted_note_part : (note : List ℕ) (i : ℕ) → 16 * i < length note
      → take 16 (drop (16 * i) (ctr (encrypt_under w) (bytes_of s) note))
      ≡ xors (bytes_of (encrypt_words w (counter_state s i))) (take 16 (drop (16 * i) note))
  crypted_note_part note i h =
      rw (← encrypted i) (ctr_block (encrypt_under w) (bytes_of s)
      (λ j. ap length (encrypted j) ∙ (bytes_of_words (counter_encrypted j)).size) note i h)

  -- A whole block, by words.
  pub crypted_note_block : {note : List ℕ} → Below 256 note → (i : ℕ) → 16 * i + 16 ≤ length note
      → take 16 (drop (16 * i) (ctr (encrypt_under w) (bytes_of s) note))
      ≡ bytes_of (xors (encrypt_words w (counter_state s i)) (words_of 4 (drop (16 * i) note)))
  crypted_note_block {note} below i h =
      let long : 16 ≤ length (drop (16 * i) note) = rw length-drop (omega arith) in
      crypted_note_part note i (omega arith)
      ∙ ap (xors (bytes_of (encrypt_words w (counter_state s i))))
      (sym (block_at (drop (16 * i) note) (below_drop (16 * i) below) long))
      ∙ sym (digits_of_xors 8 4 (encrypt_words w (counter_state s i)) (words_of 4 (drop (16 * i) note))
      ((counter_encrypted i).size ∙ sym (words_of_block (below_drop (16 * i) below)).size))
