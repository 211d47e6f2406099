-- Each branch after a Feistel step: in each pair the first stays, and the round function of the
-- first is added to the second.
use Rattle.std.specs.Prelude.{◌⊎◌, ℕ, zero, suc, ◌+◌, ◌*◌, ◌-◌, ◌%◌, ◌<◌, ◌≤◌, ◌≡◌, refl, List, [], ◌∷◌, ◌++◌, length, get_or, take, drop, set}
use Rattle.std.proofs.Common.{inl, inr, sym, ◌∙◌, arith, lit<, length-drop}
use Rattle.std.proofs.lemmas.List.{get_or-set_same, get_or-set_other, get_or-drop, get_or-take}
use Rattle.std.proofs.Math.Nat.{mod_self, mod-eq_of_lt, add-mul-mod_self_right}
use Rattle.std.proofs.Math.ListN.{get_or-append}
use Rattle.std.proofs.Math.Seq.{get_or-append_right}
use Rattle.std.proofs.lemmas.Bool.{cases_order}
use Rattle.std.proofs.lemmas.Grind.{same_number_lists, get_or_after_one}
use Rattle.clefia_spec.specs.Words.{◌⊕◌}
use Rattle.clefia_spec.specs.FFunction.{f0, f1}
use Rattle.clefia_spec.specs.Network.{feistel, rotate_branches, rotate_left, rotate_right}
use Rattle.clefia_laws.specs.NetworkLaws.{length_feistel}
use Rattle.cipher_bytes.specs.ListLaws.{spelled, spell}

pub first_stays : (f g : ℕ → ℕ → ℕ) (w : List ℕ) (i : ℕ) (s : List ℕ) (j : ℕ)
    → get_or (feistel f g w i s) (2 * j) 0 ≡ get_or s (2 * j) 0
unfolding feistel
first_stays f g w i [] j = refl
first_stays f g w i (x ∷ []) j = refl
first_stays f g w i (x ∷ y ∷ s) zero = refl
first_stays f g w i (x ∷ y ∷ s) (suc j) =
    let e : 2 * suc j ≡ suc (suc (2 * j)) = omega arith in
    rw e (first_stays g f w (i + 1) s j)

-- The round function of pair j: f and g are used alternately.
unfoldable pub function_of : (ℕ → ℕ → ℕ) → (ℕ → ℕ → ℕ) → ℕ → ℕ → ℕ → ℕ
function_of f g zero = f
function_of f g (suc j) = function_of g f j

pub second_added : (f g : ℕ → ℕ → ℕ) (w : List ℕ) (i : ℕ) (s : List ℕ) (j : ℕ) → 2 * j + 1 < length s
    → get_or (feistel f g w i s) (2 * j + 1) 0
    ≡ get_or s (2 * j + 1) 0 ⊕ function_of f g j (get_or w (i + j) 0) (get_or s (2 * j) 0)
unfolding feistel function_of
second_added f g w i [] j h = let z : ⊥ = omega arith in absurd z
second_added f g w i (x ∷ []) j h = let z : ⊥ = omega arith in absurd z
second_added f g w i (x ∷ y ∷ s) zero h = let e : i + 0 ≡ i = omega arith in rw e refl
second_added f g w i (x ∷ y ∷ s) (suc j) h =
    let e : 2 * suc j + 1 ≡ suc (suc (2 * j + 1)) = omega arith in
    let d : 2 * suc j ≡ suc (suc (2 * j)) = omega arith in
    let k : i + suc j ≡ i + 1 + j = omega arith in
    rw (e, d, k) (second_added g f w (i + 1) s j (omega arith))

-- F0 for an even pair, F1 for an odd one.
pub even_pair : (f g : ℕ → ℕ → ℕ) (j : ℕ) → j % 2 ≡ 0 → function_of f g j ≡ f
unfolding function_of
even_pair f g zero h = refl
even_pair f g (suc zero) h = let z : ⊥ = omega arith in absurd z
even_pair f g (suc (suc j)) h = even_pair f g j (omega arith)

pub odd_pair : (f g : ℕ → ℕ → ℕ) (j : ℕ) → j % 2 ≡ 1 → function_of f g j ≡ g
unfolding function_of
odd_pair f g zero h = let z : ⊥ = omega arith in absurd z
odd_pair f g (suc zero) h = refl
odd_pair f g (suc (suc j)) h = odd_pair f g j (omega arith)

-- A step of four branches reads two round keys, whatever the list is that has them.
pub by_two_keys : (f g : ℕ → ℕ → ℕ) (w : List ℕ) (i a b : ℕ) (s : List ℕ) → length s ≡ 4
    → a ≡ get_or w i 0 → b ≡ get_or w (i + 1) 0 → feistel f g (a ∷ b ∷ []) 0 s ≡ feistel f g w i s
unfolding spelled feistel
by_two_keys f g w i a b s l p q = rw (spell 4 s l, p, q) refl

-- ---- rotations, branch by branch

pub rotated_left_at : (s : List ℕ) (i : ℕ) → i < length s
    → get_or (rotate_left s) i 0 ≡ get_or s ((i + 1) % length s) 0
unfolding rotate_branches
rotated_left_at s i h = by (cases_order (i + 1) (length s))
  where
    size : length (drop 1 s) ≡ length s - 1
    size = length-drop 1 s

    by : (i + 1 ≡ length s) ⊎ ((i + 1 < length s) ⊎ (length s < i + 1))
        → get_or (drop 1 s ++ take 1 s) i 0 ≡ get_or s ((i + 1) % length s) 0
    by (inl e) =
        let z : (i + 1) % length s ≡ 0 = rw e (mod_self (length s)) in
        let y : i - length (drop 1 s) ≡ 0 = omega (arith, size) in
        rw z (get_or-append_right (drop 1 s) (take 1 s) i 0 (omega (arith, size))
        ∙ rw y (get_or-take 1 s 0 0 (lit< tt)))
    by (inr (inl l)) =
        let z : (i + 1) % length s ≡ 1 + i = mod-eq_of_lt l ∙ omega arith in
        rw z (get_or-append (drop 1 s) (take 1 s) 0 i (omega (arith, size)) ∙ get_or_after_one s i 0)
    by (inr (inr l)) = let z : ⊥ = omega arith in absurd z

pub rotated_right_at : (s : List ℕ) (i : ℕ) → i < length s
    → get_or (rotate_right s) i 0 ≡ get_or s ((i + length s - 1) % length s) 0
unfolding rotate_branches
rotated_right_at s i h = by (cases_order i 0)
  where
    n : ℕ
    n = length s - 1

    size : length (drop n s) ≡ 1
    size = length-drop n s ∙ omega arith

    by : (i ≡ 0) ⊎ ((i < 0) ⊎ (0 < i)) → get_or (drop n s ++ take n s) i 0 ≡ get_or s ((i + length s - 1) % length s) 0
    by (inl e) =
        let z : (i + length s - 1) % length s ≡ n + i = mod-eq_of_lt (omega arith) ∙ omega arith in
        rw z (get_or-append (drop n s) (take n s) 0 i (omega (arith, size)) ∙ get_or-drop n s i 0)
    by (inr (inl l)) = let z : ⊥ = omega arith in absurd z
    by (inr (inr l)) =
        let y : i + length s - 1 ≡ i - 1 + 1 * length s = omega arith in
        let z : (i + length s - 1) % length s ≡ i - 1 =
        rw y (add-mul-mod_self_right (i - 1) 1 (length s) ∙ mod-eq_of_lt (omega arith)) in
        let x : i - length (drop n s) ≡ i - 1 = omega (arith, size) in
        rw z (get_or-append_right (drop n s) (take n s) i 0 (omega (arith, size))
        ∙ rw x (get_or-take n s (i - 1) 0 (omega arith)))

-- ---- a step made pair by pair: t is the state s with the pairs before pair i changed

module _ (w : List ℕ) (at : ℕ) (s : List ℕ) (i : ℕ) (t : List ℕ) where
  abbrev after : ℕ → ℕ
  after k = get_or (feistel f0 f1 w at s) k 0

  abbrev Before : ℕ → List ℕ → Type 0
  Before n u = (k : ℕ) → k < 2 * n → get_or u k 0 ≡ after k

  abbrev From : ℕ → List ℕ → Type 0
  From n u = (k : ℕ) → 2 * n ≤ k → get_or u k 0 ≡ get_or s k 0

  -- Pair i too.
  pub turned : (v : ℕ) → 2 * i + 1 < length s → length t ≡ length s → Before i t → From i t
      → v ≡ get_or s (2 * i + 1) 0 ⊕ function_of f0 f1 i (get_or w (at + i) 0) (get_or s (2 * i) 0)
      → Before (i + 1) (set t (2 * i + 1) v) × From (i + 1) (set t (2 * i + 1) v)
  turned v h l p q e = (before, λ k m. other k (omega arith) ∙ q k (omega arith))
    where
      other : (k : ℕ) → (k ≡ 2 * i + 1 → ⊥) → get_or (set t (2 * i + 1) v) k 0 ≡ get_or t k 0
      other k m = get_or-set_other t (2 * i + 1) k v 0 m

      changed : get_or (set t (2 * i + 1) v) (2 * i + 1) 0 ≡ after (2 * i + 1)
      changed = get_or-set_same t (2 * i + 1) v 0 (omega (arith, l)) ∙ e ∙ sym (second_added f0 f1 w at s i h)

      stays : (k : ℕ) → k ≡ 2 * i → get_or (set t (2 * i + 1) v) k 0 ≡ after k
      stays k z = rw z (other (2 * i) (omega arith) ∙ q (2 * i) (omega arith) ∙ sym (first_stays f0 f1 w at s i))

      by : (k : ℕ) → k < 2 * (i + 1) → (k ≡ 2 * i) ⊎ ((k < 2 * i) ⊎ (2 * i < k))
          → get_or (set t (2 * i + 1) v) k 0 ≡ after k
      by k m (inl z) = stays k z
      by k m (inr (inl z)) = other k (omega arith) ∙ p k z
      by k m (inr (inr z)) = let o : k ≡ 2 * i + 1 = omega arith in rw o changed

      before : Before (i + 1) (set t (2 * i + 1) v)
      before k m = by k m (cases_order k (2 * i))

  -- All of them.
  pub whole : length s ≤ 2 * i + 1 → length t ≡ length s → Before i t → From i t → t ≡ feistel f0 f1 w at s
  whole h l p q = same_number_lists t (feistel f0 f1 w at s) (l ∙ sym (length_feistel f0 f1 w at s))
      (λ k m. by k (omega (arith, l)) (cases_order k (2 * i)))
    where
      by : (k : ℕ) → k < length s → (k ≡ 2 * i) ⊎ ((k < 2 * i) ⊎ (2 * i < k)) → get_or t k 0 ≡ after k
      by k m (inl z) = rw z (q (2 * i) (omega arith) ∙ sym (first_stays f0 f1 w at s i))
      by k m (inr (inl z)) = p k z
      by k m (inr (inr z)) = let o : ⊥ = omega arith in absurd o
