-- The generalised Feistel network, over a list of branches of any even number, and its inverse.
-- (Document 01's term for a branch: line.)
-- The round keys are in a list w, and i is the place of the next one. A round takes p keys: one for
-- each two branches.
use Rattle.std.specs.Prelude.{ℕ, zero, suc, ◌+◌, ◌-◌, List, [], ◌∷◌, ◌++◌, length, get_or, take, drop}
use Rattle.clefia_spec.specs.Words.{◌⊕◌}
use Rattle.clefia_spec.specs.FFunction.{f0, f1}

-- In each pair of branches, the round function of the first is added to the second; f and g are
-- used alternately.
unfoldable pub feistel : (ℕ → ℕ → ℕ) → (ℕ → ℕ → ℕ) → List ℕ → ℕ → List ℕ → List ℕ
feistel f g w i [] = []
feistel f g w i (x ∷ []) = x ∷ []
feistel f g w i (x ∷ y ∷ s) = x ∷ y ⊕ f (get_or w i 0) x ∷ feistel g f w (i + 1) s

-- The branches rotated left by k places.
unfoldable pub rotate_branches : ℕ → List ℕ → List ℕ
rotate_branches k s = drop k s ++ take k s

abbrev pub rotate_left : List ℕ → List ℕ
rotate_left s = rotate_branches 1 s

-- Right by one place: left by all but one.
abbrev pub rotate_right : List ℕ → List ℕ
rotate_right s = rotate_branches (length s - 1) s

-- n rounds, each of which ends with a rotation left.
unfoldable pub rounds : ℕ → (ℕ → ℕ → ℕ) → (ℕ → ℕ → ℕ) → ℕ → List ℕ → ℕ → List ℕ → List ℕ
rounds p f g zero w i s = s
rounds p f g (suc n) w i s = rounds p f g n w (i + p) (rotate_left (feistel f g w i s))

-- The same n rounds undone, the last one first.
unfoldable pub undo_rounds : ℕ → (ℕ → ℕ → ℕ) → (ℕ → ℕ → ℕ) → ℕ → List ℕ → ℕ → List ℕ → List ℕ
undo_rounds p f g zero w i s = s
undo_rounds p f g (suc n) w i s = feistel f g w i (rotate_right (undo_rounds p f g n w (i + p) s))

-- The network: n rounds, and after the last one the branches are rotated right.
unfoldable pub network : ℕ → (ℕ → ℕ → ℕ) → (ℕ → ℕ → ℕ) → ℕ → List ℕ → ℕ → List ℕ → List ℕ
network p f g n w i s = rotate_right (rounds p f g n w i s)

unfoldable pub inverse_network : ℕ → (ℕ → ℕ → ℕ) → (ℕ → ℕ → ℕ) → ℕ → List ℕ → ℕ → List ℕ → List ℕ
inverse_network p f g n w i s = undo_rounds p f g n w i (rotate_left s)

-- CLEFIA's networks of four and of eight branches.
abbrev pub network4 : ℕ → List ℕ → ℕ → List ℕ → List ℕ
network4 = network 2 f0 f1

abbrev pub inverse_network4 : ℕ → List ℕ → ℕ → List ℕ → List ℕ
inverse_network4 = inverse_network 2 f0 f1

abbrev pub network8 : ℕ → List ℕ → ℕ → List ℕ → List ℕ
network8 = network 4 f0 f1
