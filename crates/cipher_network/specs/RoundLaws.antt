-- One round and the rest, forward and back, for any number of branches: what the loops over rounds
-- cite.
use Rattle.std.specs.Prelude.{ℕ, zero, suc, ◌+◌, ◌-◌, ◌*◌, ◌≤◌, ◌<◌, ◌≡◌, refl, List}
use Rattle.std.proofs.Common.{add-one, sub-one, mul-suc, arith}
use Rattle.clefia_spec.specs.Network.{feistel, rotate_left, rotate_right, rounds, undo_rounds}

-- The rounds, at least one of which is left: the first, and the rest.
pub rounds_step : (p : ℕ) (f g : ℕ → ℕ → ℕ) (n : ℕ) (w : List ℕ) (i : ℕ) (s : List ℕ) → 0 < n →
    rounds p f g (n - 1) w (i + p) (rotate_left (feistel f g w i s)) ≡ rounds p f g n w i s
unfolding rounds
rounds_step p f g zero w i s h = let z : ⊥ = omega arith in absurd z
rounds_step p f g (suc n) w i s h = rw (sub-one (suc n)) refl

-- No rounds are left, so the state is that after all rounds.
pub rounds_end : (p : ℕ) (f g : ℕ → ℕ → ℕ) (left n : ℕ) (w : List ℕ) (i at : ℕ) (s t : List ℕ) → left ≤ 0 →
    rounds p f g left w i t ≡ rounds p f g n w at s → t ≡ rounds p f g n w at s
unfolding rounds
rounds_end p f g zero n w i at s t h e = e
rounds_end p f g (suc left) n w i at s t h e = let z : ⊥ = omega arith in absurd z

-- One more round is undone: the one whose keys are before those of the rounds undone so far.
pub undo_step : (p : ℕ) (f g : ℕ → ℕ → ℕ) (n : ℕ) (w : List ℕ) (i j : ℕ) (s : List ℕ) → j ≡ i + p →
    feistel f g w i (rotate_right (undo_rounds p f g n w j s)) ≡ undo_rounds p f g (n + 1) w i s
unfolding undo_rounds
undo_step p f g n w i j s h = rw (h, add-one)

-- Where the round keys of the next round begin.
pub next_keys : (at p i : ℕ) → at + p * (i + 1) ≡ at + p * i + p
next_keys at p i = let e : i + 1 ≡ suc i = add-one i in rw e (omega (arith, mul-suc p i))
