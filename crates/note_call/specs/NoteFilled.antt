-- An output that is filled from the start, and the blocks of a note as they are written.
use Rattle.std.specs.Prelude.{ℕ, ◌+◌, ◌-◌, ◌*◌, ◌^◌, ◌≤◌, ◌<◌, List, ◌++◌, ◌≡◌, refl, length, take, drop}
use Rattle.std.proofs.Common.{sym, ap, ◌∙◌, arith, length-drop, drop_of_length-le, take-append-drop, drop-drop, take_all}
use borrow.Rule.Slice.PartMut.{put_mid}
use Rattle.clefia_spec.specs.Words.{bytes_of, words_of, xors, Below}
use Rattle.clefia_spec.specs.Block.{encrypt_words, encrypt_under}
use Rattle.clefia_laws.specs.DigitLaws.{below_drop, length_xors}
use Rattle.clefia_laws.specs.SizedLaws.{Words, sized_xors}
use Rattle.clefia_laws.specs.BlockLaws.{bytes_of_words, words_of_block}
use Rattle.cipher_bytes.specs.ListLaws.{fill_part, fill_end, length_part}
use Rattle.planbook_spec.specs.Note.{ctr}
use Rattle.planbook_laws.specs.NoteLaws.{length_ctr}
use Rattle.note_blocks.specs.Counter.{counter_state, counter_encrypted, crypted_note_part, crypted_note_block}

-- What is given to write a note: it is not too long, and the output has its length.
pub record NoteReady (note out : List ℕ) : Type 0 where
  pub short : length note ≤ 16384
  pub room : length out ≡ length note

-- The note as it will be.
abbrev pub crypted_note : List ℕ → List ℕ → List ℕ → List ℕ
crypted_note w s note = ctr (encrypt_under w) (bytes_of s) note

-- Up to `at` the output is what the whole will be.
pub record NoteFilled (at : ℕ) (whole out : List ℕ) : Type 0 where
  pub size : length out ≡ length whole
  pub front : take at out ++ drop at whole ≡ whole

pub note_filled_part : (at n : ℕ) {whole out part : List ℕ} → NoteFilled at whole out → length part ≡ n
    → at + n ≤ length out → part ≡ take n (drop at whole)
    → NoteFilled (at + n) whole (put_mid at (at + n - at) out part)
note_filled_part at n {whole} {out} {part} f l h e =
    record {
      size = length_part at n out part l h ∙ f.size;
      front =
          fill_part at n out part (drop (at + n) whole) l h
          (rw (e, ← drop-drop n at whole, take-append-drop n (drop at whole)) f.front);
    }

note_filled_end : (at : ℕ) {whole out : List ℕ} → NoteFilled at whole out → length whole ≤ at → out ≡ whole
note_filled_end at {whole} {out} f h = fill_end out at whole (omega (arith, f.size))
    (rw (drop_of_length-le whole h) at f.front)

-- ---- a note

pub note_filled_start : (w s note : List ℕ) {out : List ℕ} → length out ≡ length note
    → NoteFilled 0 (crypted_note w s note) out
note_filled_start w s note e = record { size = e ∙ sym (length_ctr (encrypt_under w) (bytes_of s) note); front = refl }

pub note_filled_size : (w s note : List ℕ) {at : ℕ} {out : List ℕ} → NoteFilled at (crypted_note w s note) out
    → length out ≡ length note
note_filled_size w s note f = f.size ∙ length_ctr (encrypt_under w) (bytes_of s) note

pub note_filled_all : (w s note : List ℕ) {at : ℕ} {out : List ℕ} → NoteFilled at (crypted_note w s note) out
    → length note ≤ at → out ≡ crypted_note w s note
note_filled_all w s note {at} f h = note_filled_end at f (omega (arith, length_ctr (encrypt_under w) (bytes_of s) note))

-- An output that is filled in part can be passed again.
pub note_ready_again : (w s note : List ℕ) {at : ℕ} {out exit : List ℕ} → NoteReady note out
    → NoteFilled at (crypted_note w s note) exit → NoteReady note exit
note_ready_again w s note r f = record { short = r.short; room = note_filled_size w s note f }

module _ {w s note : List ℕ} (words : Below (2 ^ 32) w) (state : Words 4 s) (below : Below 256 note) where
  -- Block i is written at `at`: t is the encrypted counter block.
  pub note_filled_block : (at i : ℕ) {t out exit : List ℕ} → at ≡ 16 * i → at + 16 ≤ length note
      → t ≡ encrypt_words w (counter_state s i)
      → exit ≡ put_mid at (at + 16 - at) out (bytes_of (xors t (words_of 4 (drop at note))))
      → NoteFilled at (crypted_note w s note) out → NoteFilled (at + 16) (crypted_note w s note) exit
  note_filled_block at i {t} {out} p h e x f =
      let q : take 16 (drop at (crypted_note w s note)) ≡ bytes_of (xors t (words_of 4 (drop at note))) =
      rw (e, p) (crypted_note_block words state below i (rw p at h)) in
      let l : length (bytes_of (xors t (words_of 4 (drop at note)))) ≡ 16 =
      rw e (bytes_of_words (sized_xors 32 (counter_encrypted words state i) (words_of_block (below_drop at below)))
      ).size in
      rw x (note_filled_part at 16 f l (omega (arith, note_filled_size w s note f)) (sym q))

  -- All that is left, where that is no more than a block.
  pub note_filled_rest : (at i : ℕ) {t out part : List ℕ} → at ≡ 16 * i → at < length note → length note ≤ at + 16
      → t ≡ encrypt_words w (counter_state s i)
      → part ≡ xors (bytes_of t) (take (length note - at) (drop at note)) → NoteFilled at (crypted_note w s note) out
      → put_mid at (length note - at) out part ≡ crypted_note w s note
  note_filled_rest at i {t} {out} {part} p h k e x f =
      let n = length note - at in
      let room : length out ≡ length note = note_filled_size w s note f in
      let text : length (drop at note) ≡ n = length-drop at note in
      let rest : length (drop at (crypted_note w s note)) ≡ n = length-drop at _
      ∙ ap (λ (m : ℕ). m - at) (length_ctr (encrypt_under w) (bytes_of s) note) in
      let q : drop at (crypted_note w s note) ≡ xors (bytes_of t) (drop at note) =
      sym (take_all 16 _ (omega arith)) ∙ rw (e, p) (crypted_note_part words state note i (omega arith))
      ∙ ap (xors (bytes_of t)) (take_all 16 (drop at note) (omega arith)) in
      let y : part ≡ xors (bytes_of t) (drop at note) = x
      ∙ ap (xors (bytes_of t)) (take_all n (drop at note) (omega arith)) in
      let l : length part ≡ n = ap length y ∙ length_xors (bytes_of t) (drop at note) ∙ text in
      let m : at + n - at ≡ n = omega arith in
      rw m at (note_filled_all w s note (note_filled_part at n f l (omega arith)
      (y ∙ sym q ∙ sym (take_all n _ (omega arith)))) (omega arith))
