-- Theorems of notes. Those of counter mode hold for any E that gives blocks of 16 bytes, most of
-- them for any E at all. Those of the call hold for any list of checks about words and way, and
-- then under words and under keys.
use Prim.Native.Nat.{ℕ, zero, suc, ◌+◌, ◌*◌, ◌%◌, ◌^◌, ◌≤◌, ◌<◌}
use Rattle.std.specs.Prelude.{List, [], ◌∷◌, ◌++◌, ◌↔◌, ◌≡◌, refl, take, drop}
use Rattle.std.proofs.Math.Path.{sym, ap}
use Rattle.std.proofs.Common.{◌∙◌, mod-eq_of_lt, leb-true, le-leb, lit<, length-drop, take-append-drop, take_at, take_all, length-take-le}
use Rattle.std.proofs.Math.Nat.{add-zero, zero-add}
use native.Mathlib.Omega.{arith}
use Rattle.std.proofs.Math.ListN.{length}
use Rattle.std.proofs.Math.Seq.{drop_at, drop-drop}
use Rattle.clefia_spec.specs.Words.{from_digits, to_digits, xors}
use Rattle.clefia_spec.specs.Block.{encrypt_under}
use Rattle.clefia_laws.specs.DigitLaws.{from_to, to_from, from_digits_lt, below_drop, length_xors, xors_cancel}
use Rattle.clefia_laws.specs.DigitLaws.{take_xors, drop_xors}
use Rattle.clefia_laws.specs.SizedLaws.{Bytes}
use Rattle.planbook_spec.specs.Outcome.{accepted, after, Check}
use Rattle.planbook_spec.specs.OutcomeLaws.{AllPass, pass_head, pass_tail, pass_right, pass_append, pass_check}
use Rattle.planbook_spec.specs.OutcomeLaws.{judged_pass, Passed, passed, Accepted, accepted_is, Judges, judges}
use Rattle.planbook_spec.specs.Checks.{words_from_bytes, words_and_way}
use Rattle.planbook_spec.specs.Book.{number}
use Rattle.planbook_spec.specs.Note.{counter_block, keystream, block_count, ctr, note_check, note_checks, crypt_note_by}
use Rattle.planbook_spec.specs.Note.{crypt_note_call}
use Rattle.planbook_laws.specs.CheckLaws.{Way, block_size, output_size, block_passes, output_passes, words_again}
use Rattle.planbook_laws.specs.UnderKey.{Expanded, expanded_is}

-- ---- counter blocks

-- The first is the block that is given.
pub counter_first : {counter : List ℕ} → Bytes 16 counter → counter_block counter 0 ≡ counter
unfolding counter_block number
counter_first {counter} h =
    let size : length counter ≡ 16 = h.size in
    let short : length (drop 12 counter) ≡ 4 = omega (arith, length-drop 12 counter) in
    let rest : take 4 (drop 12 counter) ≡ drop 12 counter = take_all 4 (drop 12 counter) (omega arith) in
    let small : from_digits 256 (drop 12 counter) < 256 ^ length (drop 12 counter) =
    from_digits_lt (lit< tt) (below_drop 12 h.below) in
    let digits : to_digits 256 4 (from_digits 256 (drop 12 counter)) ≡ drop 12 counter =
    rw short at (to_from (lit< tt) (below_drop 12 h.below)) in
    rw (rest, add-zero, mod-eq_of_lt (rw short at small), digits) (take-append-drop 12 counter)

-- Two counter blocks of one note are equal only where they are one: up to 2 ^ 32 blocks none comes
-- twice.
pub counters_differ : (counter : List ℕ) {i j : ℕ} → i < 2 ^ 32 → j < 2 ^ 32
    → counter_block counter i ≡ counter_block counter j → i ≡ j
unfolding counter_block
counters_differ counter {i} {j} h k e =
    let n : ℕ = number 12 4 counter in
    let last : to_digits 256 4 ((n + i) % 2 ^ 32) ≡ to_digits 256 4 ((n + j) % 2 ^ 32) =
    sym (drop_at (take 12 counter) _ _ refl) ∙ ap (drop (length (take 12 counter))) e
    ∙ drop_at (take 12 counter) _ _ refl in
    let same : (n + i) % 2 ^ 32 % 2 ^ 32 ≡ (n + j) % 2 ^ 32 % 2 ^ 32 = sym (from_to (lit< tt) 4 _)
    ∙ ap (from_digits 256) last ∙ from_to (lit< tt) 4 _ in
    omega arith

-- Counter blocks of two notes are equal only where the first twelve bytes of the given blocks are.
pub counters_apart : (a b : List ℕ) (i j : ℕ) → length a ≡ 16 → length b ≡ 16 → counter_block a i ≡ counter_block b j
    → take 12 a ≡ take 12 b
unfolding counter_block
counters_apart a b i j h k e =
    sym (take_at (take 12 a) _ 12 (length-take-le 12 a (omega arith))) ∙ ap (take 12) e
    ∙ take_at (take 12 b) _ 12 (length-take-le 12 b (omega arith))

-- ---- counter mode

pub length_ctr : (E : List ℕ → List ℕ) (counter note : List ℕ) → length (ctr E counter note) ≡ length note
unfolding ctr
length_ctr E counter note = length_xors _ note

-- The same operation undoes it.
pub ctr_back : (E : List ℕ → List ℕ) (counter note : List ℕ) → ctr E counter (ctr E counter note) ≡ note
unfolding ctr block_count
ctr_back E counter note = rw length_xors (xors_cancel _ note)

-- So two texts, of whatever lengths, become the same bytes only where they are equal.
pub ctr_injective : (E : List ℕ → List ℕ) (counter : List ℕ) {a b : List ℕ} → ctr E counter a ≡ ctr E counter b → a ≡ b
ctr_injective E counter {a} {b} e = sym (ctr_back E counter a) ∙ ap (ctr E counter) e ∙ ctr_back E counter b

module _ (E : List ℕ → List ℕ) (counter : List ℕ) (sixteen : (i : ℕ) → length (E (counter_block counter i)) ≡ 16) where
  keystream_block : (n j i : ℕ) → i < n → take 16 (drop (16 * i) (keystream E counter j n))
      ≡ E (counter_block counter (j + i))
  unfolding keystream
  keystream_block zero j i h = let z : ⊥ = omega arith in absurd z
  keystream_block (suc n) j zero h = rw add-zero (take_at (E (counter_block counter j)) _ 16 (sixteen j))
  keystream_block (suc n) j (suc i) h =
      let p : 16 * suc i ≡ 16 + 16 * i = omega arith in
      let q : j + 1 + i ≡ j + suc i = omega arith in
      rw (
        p,
        ← drop-drop (16 * i) 16 (E (counter_block counter j) ++ keystream E counter (j + 1) n),
        drop_at (E (counter_block counter j)) (keystream E counter (j + 1) n) 16 (sixteen j),
      )
      (keystream_block n (j + 1) i (omega arith) ∙ ap (λ (x : ℕ). E (counter_block counter x)) q)

  -- The equation of the standard: block i of a note, or the part that there is of it, has the
  -- encrypted counter block i added to it.
  pub ctr_block : (note : List ℕ) (i : ℕ) → 16 * i < length note
      → take 16 (drop (16 * i) (ctr E counter note)) ≡ xors (E (counter_block counter i)) (take 16 (drop (16 * i) note))
  unfolding ctr block_count
  ctr_block note i h =
      rw (
        drop_xors (16 * i) _ note,
        take_xors 16 _ (drop (16 * i) note),
        keystream_block (block_count note) 0 i (omega arith),
        zero-add,
      )

-- ---- the call, whatever is checked of words and way

note_size : (note : List ℕ) {cs : List Check} → AllPass (note_check note ∷ cs) → length note ≤ 16384
unfolding note_check
note_size note p = leb-true _ _ (pass_head p)

note_passes : (note : List ℕ) → length note ≤ 16384 → AllPass (note_check note ∷ [])
unfolding note_check
note_passes note h = pass_check (le-leb (length note) 16384 h)

-- What checks 3, 4 and 12 have shown.
pub record NotePassed (counter note out : List ℕ) : Type 0 where
  pub block : length counter ≡ 16
  pub room : length out ≡ length note
  pub short : length note ≤ 16384

pub note_passed : (cs : List Check) (counter note out : List ℕ) → AllPass (note_checks cs counter note out)
    → NotePassed counter note out
unfolding note_checks
note_passed cs counter note out p =
    let q = pass_right cs _ p in
    record {
      block = block_size counter q;
      room = output_size out (pass_tail q);
      short =
          note_size note (pass_tail (pass_tail q));
    }

module _ (E : List ℕ → List ℕ) (cs cs' : List Check) (counter : List ℕ) where
  pub crypted_back : (note out out' : List ℕ) {n : ℕ} {bs : List ℕ} → crypt_note_by cs E counter note out
      ≡ accepted n bs
      → AllPass cs' → length out' ≡ length note
      → crypt_note_by cs' E counter bs out' ≡ accepted n note
  unfolding crypt_note_by note_checks
  crypted_back note out out' a q e =
      let p : Passed (note_checks cs counter note out) (length note) _ (ctr E counter note) _ = passed _ _ _ a in
      let k : NotePassed counter note out = note_passed cs counter note out p.checks in
      let l : length (ctr E counter note) ≡ length note = length_ctr E counter note in
      rw (← p.same_bytes, ← p.same_count)
      (judged_pass
      (pass_append q (pass_append (block_passes counter k.block)
      (pass_append (output_passes _ out' (e ∙ sym l)) (note_passes _ (rw l k.short))))) _
      ∙ rw (l, ctr_back E counter note))

  pub crypted_alike : (a b out out' : List ℕ) → Accepted (crypt_note_by cs E counter a out)
      → Accepted (crypt_note_by cs' E counter b out')
      → (after out (crypt_note_by cs E counter a out) ≡ after out' (crypt_note_by cs' E counter b out')) ↔ (a ≡ b)
  unfolding crypt_note_by
  crypted_alike a b out out' pa pb =
      let ea = (passed _ _ _ (accepted_is pa out)).same_bytes in
      let eb = (passed _ _ _ (accepted_is pb out')).same_bytes in
      (λ e. ctr_injective E counter (ea ∙ e ∙ sym eb), λ e. sym ea ∙ ap (ctr E counter) e ∙ eb)

-- ---- under the same words, by any way each time

pub demand1_crypt_note : (words : List ℕ) (way : ℕ) (counter note out : List ℕ)
    → Judges (note_checks (words_and_way words way) counter note out) (length note)
    (ctr (encrypt_under (words_from_bytes words)) counter note) (crypt_note_call words way counter note out)
unfolding crypt_note_call crypt_note_by
demand1_crypt_note words way counter note out = judges _ _ _

module _ (words : List ℕ) (way way' : ℕ) (counter : List ℕ) where
  -- Applied to what it has made of a note, the call gives the note.
  pub note_comes_back_under : Way way' → (note out out' : List ℕ) {n : ℕ} {bs : List ℕ}
      → crypt_note_call words way counter note out ≡ accepted n bs → length out' ≡ length note
      → crypt_note_call words way' counter bs out' ≡ accepted n note
  unfolding crypt_note_call crypt_note_by note_checks
  note_comes_back_under permitted note out out' a e =
      crypted_back _ (words_and_way words way) (words_and_way words way') counter note out out' a
      (words_again words (passed _ _ _ a).checks permitted) e

  -- Two notes under the same words and one first counter block are equal exactly where their texts
  -- are.
  pub notes_alike_under : (a b out out' : List ℕ) → Accepted (crypt_note_call words way counter a out)
      → Accepted (crypt_note_call words way' counter b out')
      → (after out (crypt_note_call words way counter a out) ≡ after out' (crypt_note_call words way' counter b out'))
      ↔ (a ≡ b)
  unfolding crypt_note_call
  notes_alike_under = crypted_alike _ (words_and_way words way) (words_and_way words way') counter

-- The same under one key, whose words were expanded for each of the two calls by whichever way.
module _ (key : List ℕ) {words words' : List ℕ} (made : Expanded key words) (made' : Expanded key words') (way way' : ℕ)
    (counter : List ℕ) where
  pub note_comes_back : Way way' → (note out out' : List ℕ) {n : ℕ} {bs : List ℕ}
      → crypt_note_call words way counter note out ≡ accepted n bs → length out' ≡ length note
      → crypt_note_call words' way' counter bs out' ≡ accepted n note
  note_comes_back permitted note out out' a e =
      rw (sym (expanded_is made') ∙ expanded_is made)
      (note_comes_back_under words way way' counter permitted note out out' a e)

  pub notes_alike : (a b out out' : List ℕ) → Accepted (crypt_note_call words way counter a out)
      → Accepted (crypt_note_call words' way' counter b out')
      → (after out (crypt_note_call words way counter a out) ≡ after out' (crypt_note_call words' way' counter b out'))
      ↔ (a ≡ b)
  notes_alike a b out out' pa pb =
      rw (sym (expanded_is made') ∙ expanded_is made) (notes_alike_under words way way' counter a b out out' pa
      (rw (sym (expanded_is made') ∙ expanded_is made) at pb))

-- Within one note no counter block comes twice.
pub note_counters_differ : (words : List ℕ) (way : ℕ) (counter note out : List ℕ) {n : ℕ} {bs : List ℕ}
    → crypt_note_call words way counter note out ≡ accepted n bs
    → {i j : ℕ} → i < block_count note → j < block_count note → counter_block counter i ≡ counter_block counter j
    → i ≡ j
unfolding crypt_note_call crypt_note_by block_count
note_counters_differ words way counter note out a h k e =
    let s : length note ≤ 16384 = (note_passed (words_and_way words way) counter note out
    (passed _ _ _ a).checks).short in
    counters_differ counter (omega arith) (omega arith) e
