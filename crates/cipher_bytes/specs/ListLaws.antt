-- Lists of a known length, and four elements that are at a place of a list or are put there.
use Rattle.std.specs.Prelude.{ℕ, zero, suc, ◌+◌, ◌-◌, ◌*◌, ◌≤◌, ◌<◌, ◌≡◌, refl, List, [], ◌∷◌, ◌++◌, length, get_or, set, take, drop}
use Rattle.std.proofs.Common.{sym, ◌∙◌, ap, append_assoc, append-nil, add_assoc, mul-add, add-one, arith, length-append, length-take, length-drop, take_all, take_at, take-suc, take-suc-set, drop-cons, drop-drop, length-take-le}
use Rattle.std.proofs.Math.Numerals.{towards_suc}
use Rattle.std.proofs.lemmas.List.Edits.{sets-eq}
use borrow.Rule.Slice.PartMut.{put_mid, same_len_mid, mid_len}
use Rattle.clefia_spec.specs.Words.{from_digits, to_digits, digits_of, numbers_of, bytes_of, words_of, four_at}

-- The first n elements of a list, each written out.
unfoldable pub spelled : ℕ → List ℕ → List ℕ
spelled zero s = []
spelled (suc n) s = get_or s 0 0 ∷ spelled n (drop 1 s)

-- A list is its elements. Rewritten so, what is defined on lists computes.
pub spell : (n : ℕ) (s : List ℕ) → length s ≡ n → s ≡ spelled n s
unfolding spelled
spell zero [] h = refl
spell zero (x ∷ s) h = let z : ⊥ = omega arith in absurd z
spell (suc n) [] h = let z : ⊥ = omega arith in absurd z
spell (suc n) (x ∷ s) h = ap (λ (t : List ℕ). x ∷ t) (spell n s (omega arith))

-- Four elements at a place.
pub four_at_lem : (s : List ℕ) (i : ℕ) → i + 4 ≤ length s → take 4 (drop i s) ≡ four_at s i
unfolding four_at
four_at_lem s i h =
    simp (
      towards_suc,
      drop-cons s i 0 (omega arith),
      drop-cons s (suc i) 0 (omega arith),
      drop-cons s (suc (suc i)) 0 (omega arith),
      drop-cons s (suc (suc (suc i))) 0 (omega arith),
    )

-- Four elements p put at place i, and all else as it was.
unfoldable pub put_four : List ℕ → ℕ → List ℕ → List ℕ
put_four s i p = take i s ++ p ++ drop (i + 4) s

-- Four stores, one after the other, put four elements.
pub four_stores : (s : List ℕ) (i a b c d : ℕ) → i + 4 ≤ length s →
    set (set (set (set s i a) (i + 1) b) (i + 2) c) (i + 3) d ≡ put_four s i (a ∷ b ∷ c ∷ d ∷ [])
unfolding put_four
four_stores s i a b c d h = simp towards_suc (simp towards_suc at (sets-eq (a ∷ b ∷ c ∷ d ∷ []) s i h))

-- Four elements copied into the part from i to i + 4 are put there.
pub four_put : (s : List ℕ) (i : ℕ) (p : List ℕ) → put_mid i (i + 4 - i) s p ≡ put_four s i p
unfolding put_four
four_put s i p =
    let e : i + (i + 4 - i) ≡ i + 4 = omega arith in
    rw (drop-drop (i + 4 - i) i s, e) (sym (append_assoc (take i s) p (drop (i + 4) s)))

-- The list up to the end of four elements that were put.
pub take_put_four : (s : List ℕ) (i : ℕ) (p : List ℕ) → length p ≡ 4 → i + 4 ≤ length s
    → take (i + 4) (put_four s i p) ≡ take i s ++ p
unfolding put_four
take_put_four s i p e h = take_at (take i s ++ p) (drop (i + 4) s) (i + 4)
    (length-append (take i s) p ∙ omega (arith, length-take-le i s (omega arith)))

pub length_put_four : (s : List ℕ) (i : ℕ) (p : List ℕ) → length p ≡ 4 → i + 4 ≤ length s
    → length (put_four s i p) ≡ length s
unfolding put_four
length_put_four s i p e h = simp (length-append, length-take, length-drop) (omega arith)

-- A list is filled four elements at a time: what has been filled up to i, and what is to follow,
-- make the whole.
pub fill_four : (s : List ℕ) (i : ℕ) (p rest whole : List ℕ) → length p ≡ 4 → i + 4 ≤ length s →
    take i s ++ (p ++ rest) ≡ whole → take (i + 4) (put_four s i p) ++ rest ≡ whole
fill_four s i p rest whole e h w = rw (take_put_four s i p e h, append_assoc) w

pub fill_end : (s : List ℕ) (i : ℕ) (whole : List ℕ) → length s ≤ i → take i s ++ [] ≡ whole → s ≡ whole
fill_end s i whole h w = sym (take_all i s h) ∙ sym (append-nil (take i s)) ∙ w

-- The same one by one.
pub fill_one : (i : ℕ) (s whole : List ℕ) → i < length s → i < length whole → take i s ≡ take i whole
    → take (i + 1) (set s i (get_or whole i 0)) ≡ take (i + 1) whole
fill_one i s whole h k e =
    rw add-one (take-suc-set s i (get_or whole i 0) h ∙ ap (λ (l : List ℕ). l ++ (get_or whole i 0 ∷ [])) e
    ∙ sym (take-suc whole i 0 k))

-- The same for a part of any length, as a call that filled it returns it: what is before its end.
pub fill_part : (at n : ℕ) (out part rest : List ℕ) {whole : List ℕ} → length part ≡ n → at + n ≤ length out
    → take at out ++ (part ++ rest) ≡ whole → take (at + n) (put_mid at (at + n - at) out part) ++ rest ≡ whole
fill_part at n out part rest {whole} l h e =
    let front : length (take at out ++ part) ≡ at + n = length-append (take at out) part
    ∙ omega (arith, length-take-le at out (omega arith)) in
    ap (λ (x : List ℕ). take (at + n) x ++ rest) (sym (append_assoc (take at out) part _))
    ∙ ap (λ (x : List ℕ). x ++ rest) (take_at (take at out ++ part) _ (at + n) front)
    ∙ append_assoc (take at out) part rest ∙ e

pub length_part : (at n : ℕ) (out part : List ℕ) → length part ≡ n → at + n ≤ length out
    → length (put_mid at (at + n - at) out part) ≡ length out
length_part at n out part l h =
    same_len_mid at (at + n - at) out part (l ∙ sym (mid_len at (at + n) out h ∙ omega arith))

-- The bytes of a list of words from place i on: those of the word there, and of the rest.
pub bytes_step : (s : List ℕ) (i : ℕ) → i < length s
    → bytes_of (drop i s) ≡ to_digits 256 4 (get_or s i 0) ++ bytes_of (drop (i + 1) s)
unfolding digits_of
bytes_step s i h = rw (add-one, drop-cons s i 0)

-- The word at place i of a list of bytes.
unfoldable pub word_at : List ℕ → ℕ → ℕ
word_at s i = from_digits 256 (take 4 (drop i s))

-- Four words that follow each other, each at its place.
pub four_words : (s : List ℕ) (i : ℕ) → words_of 4 (drop i s) ≡ word_at s i ∷ word_at s (i + 4) ∷ word_at s (i + 8)
    ∷ word_at s (i + 12) ∷ []
unfolding word_at numbers_of
four_words s i = simp (drop-drop, add_assoc)

-- The word at place j of a list of words, by its bytes.
pub get_d_words : (n : ℕ) (s : List ℕ) (j : ℕ) → j < n → get_or (words_of n s) j 0 ≡ word_at s (4 * j)
unfolding word_at numbers_of
get_d_words zero s j h = let z : ⊥ = omega arith in absurd z
get_d_words (suc n) s zero h = refl
get_d_words (suc n) s (suc j) h =
    get_d_words n (drop 4 s) j (omega arith)
    ∙ let e : 4 + 4 * j ≡ 4 * suc j = omega arith in rw (drop-drop, e)

-- Four words of a list of words, by their bytes.
pub four_at_words : (n : ℕ) (s : List ℕ) (i : ℕ) → i + 4 ≤ n → four_at (words_of n s) i ≡ words_of 4 (drop (4 * i) s)
unfolding four_at
four_at_words n s i h =
    rw (
      four_words s (4 * i),
      get_d_words n s i (omega arith),
      get_d_words n s (i + 1) (omega arith),
      get_d_words n s (i + 2) (omega arith),
      get_d_words n s (i + 3) (omega arith),
      mul-add,
      mul-add,
      mul-add,
    )
