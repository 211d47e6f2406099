-- The rounds of the network are undone both ways, for any number of rounds, any round functions,
-- any keys and any number of branches. Lengths and bounds are kept.
use Prim.Native.Nat.{ℕ, zero, suc, ◌+◌, ◌-◌, ◌^◌, ◌<◌}
use Rattle.std.specs.Prelude.{◌≡◌, length, get_or, take, drop}
use Rattle.std.proofs.Math.Path.{refl, ap}
use Rattle.std.proofs.Common.{ap₂, ◌∙◌, arith, length-append, length-take, length-drop, take-append-drop, take_at, drop_at}
use mathlib.Core.List.{List, [], ◌∷◌, ◌++◌}
use Rattle.std.proofs.lemmas.Nat.{xor_lt}
use Rattle.clefia_spec.specs.Words.{Below, none, more}
use Rattle.clefia_laws.specs.XorLaws.{xor_cancel_right}
use Rattle.clefia_laws.specs.DigitLaws.{below_append, below_take, below_drop}
use Rattle.clefia_spec.specs.Network.{feistel, rotate_branches, rotate_left, rotate_right, rounds, undo_rounds, network}
use Rattle.clefia_spec.specs.Network.{inverse_network}

-- ---- rotations

pub length_rotate : (k : ℕ) (s : List ℕ) → length (rotate_branches k s) ≡ length s
unfolding rotate_branches
length_rotate k s =
    length-append (drop k s) (take k s) ∙ omega (arith, length-drop k s, length-take k s)

-- a rotation by k is undone by one by the rest of the branches
rotate_back : (j k : ℕ) (s : List ℕ) → j + k ≡ length s → rotate_branches j (rotate_branches k s) ≡ s
unfolding rotate_branches
rotate_back j k s e =
    ap₂ ◌++◌ (drop_at (drop k s) (take k s) j size) (take_at (drop k s) (take k s) j size) ∙ take-append-drop k s
  where
    size : length (drop k s) ≡ j
    size = length-drop k s ∙ omega arith

pub right_left : (s : List ℕ) → rotate_right (rotate_left s) ≡ s
right_left [] = unfold rotate_branches in refl
right_left (x ∷ s) =
    ap (λ (n : ℕ). rotate_branches (n - 1) (rotate_left (x ∷ s))) (length_rotate 1 (x ∷ s))
    ∙ rotate_back (length (x ∷ s) - 1) 1 (x ∷ s) (omega arith)

pub left_right : (s : List ℕ) → rotate_left (rotate_right s) ≡ s
left_right [] = unfold rotate_branches in refl
left_right (x ∷ s) = rotate_back 1 (length (x ∷ s) - 1) (x ∷ s) (omega arith)

-- ---- rounds, over any round functions

pub length_feistel : (f g : ℕ → ℕ → ℕ) (w : List ℕ) (i : ℕ) (s : List ℕ) → length (feistel f g w i s) ≡ length s
unfolding feistel
length_feistel f g w i [] = refl
length_feistel f g w i (x ∷ []) = refl
length_feistel f g w i (x ∷ y ∷ s) = ap (λ (n : ℕ). suc (suc n)) (length_feistel g f w (i + 1) s)

pub feistel_twice : (f g : ℕ → ℕ → ℕ) (w : List ℕ) (i : ℕ) (s : List ℕ) → feistel f g w i (feistel f g w i s) ≡ s
unfolding feistel
feistel_twice f g w i [] = refl
feistel_twice f g w i (x ∷ []) = refl
feistel_twice f g w i (x ∷ y ∷ s) =
    ap₂ (λ (z : ℕ) (l : List ℕ). x ∷ z ∷ l) (xor_cancel_right y (f (get_or w i 0) x)) (feistel_twice g f w (i + 1) s)

below_feistel : (k : ℕ) (f g : ℕ → ℕ → ℕ) → ((a b : ℕ) → f a b < 2 ^ k) → ((a b : ℕ) → g a b < 2 ^ k)
    → (w : List ℕ) (i : ℕ) {s : List ℕ} → Below (2 ^ k) s → Below (2 ^ k) (feistel f g w i s)
unfolding feistel
below_feistel k f g hf hg w i none = none
below_feistel k f g hf hg w i (more h none) = more h none
below_feistel k f g hf hg w i (more {x = x} h (more {x = y} l r)) =
    more h (more (xor_lt k y (f (get_or w i 0) x) l (hf (get_or w i 0) x)) (below_feistel k g f hg hf w (i + 1) r))

below_rotate : {b : ℕ} (k : ℕ) {s : List ℕ} → Below b s → Below b (rotate_branches k s)
unfolding rotate_branches
below_rotate k r = below_append (below_drop k r) (below_take k r)

module _ (p : ℕ) (f g : ℕ → ℕ → ℕ) where
  pub undo_rounds_lem : (n : ℕ) (w : List ℕ) (i : ℕ) (s : List ℕ) → undo_rounds p f g n w i (rounds p f g n w i s) ≡ s
  unfolding rounds undo_rounds
  undo_rounds_lem zero w i s = refl
  undo_rounds_lem (suc n) w i s =
      ap (λ (t : List ℕ). feistel f g w i (rotate_right t)) (undo_rounds_lem n w (i + p)
      (rotate_left (feistel f g w i s)))
      ∙ ap (feistel f g w i) (right_left (feistel f g w i s)) ∙ feistel_twice f g w i s

  pub redo_rounds : (n : ℕ) (w : List ℕ) (i : ℕ) (s : List ℕ) → rounds p f g n w i (undo_rounds p f g n w i s) ≡ s
  unfolding rounds undo_rounds
  redo_rounds zero w i s = refl
  redo_rounds (suc n) w i s =
      ap (λ (t : List ℕ). rounds p f g n w (i + p) (rotate_left t))
      (feistel_twice f g w i (rotate_right (undo_rounds p f g n w (i + p) s)))
      ∙ ap (rounds p f g n w (i + p)) (left_right (undo_rounds p f g n w (i + p) s)) ∙ redo_rounds n w (i + p) s

  pub undo_network : (n : ℕ) (w : List ℕ) (i : ℕ) (s : List ℕ) → inverse_network p f g n w i (network p f g n w i s) ≡ s
  unfolding network inverse_network
  undo_network n w i s = ap (undo_rounds p f g n w i) (left_right (rounds p f g n w i s)) ∙ undo_rounds_lem n w i s

  pub redo_network : (n : ℕ) (w : List ℕ) (i : ℕ) (s : List ℕ) → network p f g n w i (inverse_network p f g n w i s) ≡ s
  unfolding network inverse_network
  redo_network n w i s = ap rotate_right (redo_rounds n w i (rotate_left s)) ∙ right_left s

  length_rounds : (n : ℕ) (w : List ℕ) (i : ℕ) (s : List ℕ) → length (rounds p f g n w i s) ≡ length s
  unfolding rounds
  length_rounds zero w i s = refl
  length_rounds (suc n) w i s =
      length_rounds n w (i + p) (rotate_left (feistel f g w i s)) ∙ length_rotate 1 (feistel f g w i s)
      ∙ length_feistel f g w i s

  length_undo_rounds : (n : ℕ) (w : List ℕ) (i : ℕ) (s : List ℕ) → length (undo_rounds p f g n w i s) ≡ length s
  unfolding undo_rounds
  length_undo_rounds zero w i s = refl
  length_undo_rounds (suc n) w i s =
      let t : List ℕ = undo_rounds p f g n w (i + p) s in
      length_feistel f g w i (rotate_right t) ∙ length_rotate (length t - 1) t ∙ length_undo_rounds n w (i + p) s

  pub length_network : (n : ℕ) (w : List ℕ) (i : ℕ) (s : List ℕ) → length (network p f g n w i s) ≡ length s
  unfolding network
  length_network n w i s = length_rotate (length (rounds p f g n w i s) - 1) (rounds p f g n w i s)
      ∙ length_rounds n w i s

  pub length_inverse_network : (n : ℕ) (w : List ℕ) (i : ℕ) (s : List ℕ)
      → length (inverse_network p f g n w i s) ≡ length s
  unfolding inverse_network
  length_inverse_network n w i s = length_undo_rounds n w i (rotate_left s) ∙ length_rotate 1 s

  -- the bound of the round functions is kept
  module _ (k : ℕ) (hf : (a b : ℕ) → f a b < 2 ^ k) (hg : (a b : ℕ) → g a b < 2 ^ k) where
    below_rounds : (n : ℕ) (w : List ℕ) (i : ℕ) {s : List ℕ} → Below (2 ^ k) s → Below (2 ^ k) (rounds p f g n w i s)
    unfolding rounds
    below_rounds zero w i r = r
    below_rounds (suc n) w i r = below_rounds n w (i + p) (below_rotate 1 (below_feistel k f g hf hg w i r))

    below_undo_rounds : (n : ℕ) (w : List ℕ) (i : ℕ) {s : List ℕ} → Below (2 ^ k) s
        → Below (2 ^ k) (undo_rounds p f g n w i s)
    unfolding undo_rounds
    below_undo_rounds zero w i r = r
    below_undo_rounds (suc n) w i {s} r =
        below_feistel k f g hf hg w i
        (below_rotate (length (undo_rounds p f g n w (i + p) s) - 1) (below_undo_rounds n w (i + p) r))

    pub below_network : (n : ℕ) (w : List ℕ) (i : ℕ) {s : List ℕ} → Below (2 ^ k) s
        → Below (2 ^ k) (network p f g n w i s)
    unfolding network
    below_network n w i {s} r = below_rotate (length (rounds p f g n w i s) - 1) (below_rounds n w i r)

    pub below_inverse_network : (n : ℕ) (w : List ℕ) (i : ℕ) {s : List ℕ} → Below (2 ^ k) s
        → Below (2 ^ k) (inverse_network p f g n w i s)
    unfolding inverse_network
    below_inverse_network n w i r = below_undo_rounds n w i (below_rotate 1 r)
