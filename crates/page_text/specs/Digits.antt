-- A number in its field, as code writes it: from the last digit on.
use Rattle.std.specs.Prelude.{ℕ, zero, suc, ◌+◌, ◌-◌, ◌/◌, ◌%◌, ◌≤◌, ◌<◌, Bool, true, false, List, [], ◌∷◌, ◌++◌, ◌≡◌, refl, eqb, ltb, length, take, drop, set}
use Rattle.std.proofs.Common.{append_assoc, sym, ap, ◌∙◌, le_of_eq, add-one, arith, eqb-true, ne_eqb, ltb-true, ltb-false, length-append, length-set, drop_of_length-le, drop_at, length-take-le, take_all, take-suc-set}
use borrow.Rule.Slice.PartMut.{put_mid}
use Rattle.std.proofs.lemmas.Bool.{eqb-false}
use Rattle.std.proofs.lemmas.List.{set_split}
use Rattle.clefia_spec.specs.Words.{choose}
use Rattle.planbook_spec.specs.Page.{decimal, spaces, right_aligned, number_field, fields}
use Rattle.planbook_laws.specs.PageLaws.{length_field}
use Rattle.cipher_bytes.specs.ListLaws.{fill_part, length_part}

-- The character of the last digit of what is left of a number, or a space where nothing is left.
unfoldable pub shown_digit : ℕ → ℕ
shown_digit rest = choose (eqb rest 0) 32 (48 + rest % 10)

-- The first k characters of a field, where `rest` is left of its number: spaces where that is 0.
unfoldable pub front_field : ℕ → ℕ → List ℕ
front_field k rest = choose (eqb rest 0) (spaces k) (number_field k rest)

spaces_last : (k : ℕ) → spaces (suc k) ≡ spaces k ++ (32 ∷ [])
unfolding spaces
spaces_last zero = refl
spaces_last (suc k) = ap (λ (l : List ℕ). 32 ∷ l) (spaces_last k)

-- The last digit, and what is before it.
pub field_last : (k n : ℕ) → number_field (suc k) n ≡ front_field k (n / 10) ++ ((48 + n % 10) ∷ [])
unfolding front_field right_aligned decimal
field_last k n = by_tests (ltb n 10) (eqb (n / 10) 0) refl refl
  where
    by_tests : (t u : Bool) → ltb n 10 ≡ t → eqb (n / 10) 0 ≡ u
        → spaces (suc k - length (choose t [] (decimal k (n / 10)) ++ ((48 + n % 10) ∷ [])))
        ++ (choose t [] (decimal k (n / 10)) ++ ((48 + n % 10) ∷ []))
        ≡ choose u (spaces k) (spaces (k - length (decimal k (n / 10))) ++ decimal k (n / 10)) ++ ((48 + n % 10) ∷ [])
    by_tests true true e h = let s : suc k - 1 ≡ k = omega arith in rw s
    by_tests true false e h = let s : n < 10 = ltb-true n 10 e in absurd (eqb-false (n / 10) 0 h (omega arith))
    by_tests false true e h =
        let s : 10 ≤ n = ltb-false n 10 e in
        let z : n / 10 ≡ 0 = eqb-true (n / 10) 0 h in
        absurd (omega arith)
    by_tests false false e h =
        let s : suc k - length (decimal k (n / 10) ++ ((48 + n % 10) ∷ [])) ≡ k - length (decimal k (n / 10)) =
        omega (arith, length-append (decimal k (n / 10)) ((48 + n % 10) ∷ [])) in
        rw s (sym (append_assoc (spaces (k - length (decimal k (n / 10)))) (decimal k (n / 10)) _))

pub front_last : (k rest : ℕ) → front_field (suc k) rest ≡ front_field k (rest / 10) ++ (shown_digit rest ∷ [])
unfolding front_field shown_digit
front_last k zero = spaces_last k
front_last k (suc m) = let some : eqb (suc m) 0 ≡ false = ne_eqb (suc m) 0 (λ e. omega (arith, e)) in
    rw some (field_last k (suc m))

-- ---- a field that is written from its end: characters from i on are there, and `rest` is left of
-- the number n

pub record DigitsWritten (w n i rest : ℕ) (out : List ℕ) : Type 0 where
  pub size : length out ≡ w
  pub inside : i < w
  pub whole : front_field i rest ++ drop i out ≡ number_field w n

drop_set : (k : ℕ) (out : List ℕ) (c : ℕ) → k < length out → drop k (set out k c) ≡ c ∷ drop (suc k) out
drop_set k out c h = ap (drop k) (set_split out k c h)
    ∙ drop_at (take k out) (c ∷ drop (suc k) out) k (length-take-le k out (omega arith))

-- The last character.
pub written_start : (n : ℕ) (out : List ℕ) → 0 < length out
    → DigitsWritten (length out) n (length out - 1) (n / 10) (set out (length out - 1) (48 + n % 10))
written_start n out h =
    let k : ℕ = length out - 1 in
    let l : length out ≡ suc k = omega arith in
    let none : drop (suc k) out ≡ [] = drop_of_length-le out (le_of_eq l) in
    record {
      size = length-set out k _;
      inside = omega arith;
      whole =
          ap (λ (cs : List ℕ). front_field k (n / 10) ++ cs)
          (drop_set k out (48 + n % 10) (omega arith) ∙ ap (λ (cs : List ℕ). (48 + n % 10) ∷ cs) none)
          ∙ sym (field_last k n) ∙ ap (λ (w : ℕ). number_field w n) (sym l);
    }

-- One character more.
pub written_next : {w n i rest : ℕ} {out : List ℕ} → DigitsWritten w n i rest out → 0 < i
    → DigitsWritten w n (i - 1) (rest / 10) (set out (i - 1) (shown_digit rest))
written_next {w} {n} {i} {rest} {out} h pos =
    let k : ℕ = i - 1 in
    let e : i ≡ suc k = omega arith in
    let whole : front_field (suc k) rest ++ drop (suc k) out ≡ number_field w n = rw e at h.whole in
    record {
      size = length-set out k _ ∙ h.size;
      inside = omega (arith, h.inside);
      whole =
          rw (drop_set k out (shown_digit rest) (omega (arith, h.inside, h.size)))
          (sym (append_assoc (front_field k (rest / 10)) (shown_digit rest ∷ []) (drop (suc k) out))
          ∙ ap (λ (l : List ℕ). l ++ drop (suc k) out) (sym (front_last k rest)) ∙ whole);
    }

pub written_end : {w n rest : ℕ} {out : List ℕ} → DigitsWritten w n 0 rest out → out ≡ number_field w n
unfolding front_field spaces right_aligned decimal
written_end {rest = rest} {out = out} h = ap (λ (l : List ℕ). l ++ out) (sym (nothing (eqb rest 0))) ∙ h.whole
  where
    nothing : (t : Bool) → ◌≡◌ {A = List ℕ} (choose t [] []) []
    nothing true = refl
    nothing false = refl

-- ---- a field put into a line, and the character after it

pub field_put : (at w n c : ℕ) (out : List ℕ) → at + w < length out
    → take (at + w + 1) (set (put_mid at (at + w - at) out (number_field w n)) (at + w) c) ≡ take at out
    ++ (number_field w n ++ (c ∷ []))
field_put at w n c out h =
    let size : length (put_mid at (at + w - at) out (number_field w n)) ≡ length out =
    length_part at w out (number_field w n) (length_field w n) (omega arith) in
    rw add-one (take-suc-set _ (at + w) c (omega arith))
    ∙ fill_part at w out (number_field w n) (c ∷ []) (length_field w n) (omega arith) refl

-- Five fields put one after the other make a line; o, p, q, r and s are the output after each of
-- them.
pub line_put : (a b c d e : ℕ) (o p q r s : List ℕ) → take 11 o ≡ number_field 10 a ++ (32 ∷ [])
    → take 22 p ≡ take 11 o ++ (number_field 10 b ++ (32 ∷ []))
    → take 24 q ≡ take 22 p ++ (number_field 1 c ++ (32 ∷ [])) → take 28 r
    ≡ take 24 q ++ (number_field 3 d ++ (32 ∷ []))
    → take 32 s ≡ take 28 r ++ (number_field 3 e ++ (10 ∷ [])) → length s ≡ 32
    → s ≡ fields (number_field 10 a) (number_field 10 b) (number_field 1 c) (number_field 3 d) (number_field 3 e)
line_put a b c d e o p q r s ho hp hq hr hs l = sym (take_all 32 s (le_of_eq l))
    ∙ rw (hs, hr, hq, hp, ho) (simp append_assoc)
