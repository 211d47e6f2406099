-- Four states: what is done to each, and two rounds on one state. A law is about one state; each
-- state cites it.
use Rattle.std.specs.Prelude.{ℕ, ◌+◌, ◌-◌, ◌*◌, ◌<◌, ◌≡◌, refl, List, get_or}
use Rattle.std.proofs.Common.{arith}
use Rattle.clefia_spec.specs.FFunction.{f0, f1}
use Rattle.clefia_spec.specs.Network.{feistel, rotate_left, rotate_right, rounds, undo_rounds}
use Rattle.cipher_network4_four_way.specs.declared.FourStates.{FourStates}
use Rattle.cipher_network.specs.RoundLaws.{rounds_step, undo_step}

abbrev pub each : (List ℕ → List ℕ) → FourStates → FourStates
each f s = record { a = f s.a; b = f s.b; c = f s.c; d = f s.d }

pub each_same : {f g : List ℕ → List ℕ} → ((s : List ℕ) → f s ≡ g s) → (t : FourStates) → each f t ≡ each g t
each_same h t = rw (h t.a, h t.b, h t.c, h t.d)

-- The four keys from place i of w on: those of two rounds.
pub record Keys (w : List ℕ) (i k0 k1 k2 k3 : ℕ) : Type 0 where
  pub first : k0 ≡ get_or w i 0
  pub second : k1 ≡ get_or w (i + 1) 0
  pub third : k2 ≡ get_or w (i + 2) 0
  pub fourth : k3 ≡ get_or w (i + 3) 0

-- The last of them, as the second of two rounds requires it.
pub last_key : {w : List ℕ} {i k0 k1 k2 k3 : ℕ} → Keys w i k0 k1 k2 k3 → k3 ≡ get_or w (i + 2 + 1) 0
last_key {i = i} k = let p : i + 2 + 1 ≡ i + 3 = omega arith in rw p k.fourth

-- Two rounds on a state, and the same two undone.
pub two_rounds_lem : (w : List ℕ) (i : ℕ) (s : List ℕ) {t u : List ℕ} → t ≡ rotate_left (feistel f0 f1 w i s)
    → u ≡ rotate_left (feistel f0 f1 w (i + 2) t)
    → u ≡ rounds 2 f0 f1 2 w i s
unfolding rounds
two_rounds_lem w i s e f = rw (f, e)

pub two_undone : (w : List ℕ) (i : ℕ) (s : List ℕ) {t u : List ℕ} → t ≡ feistel f0 f1 w (i + 2) (rotate_right s)
    → u ≡ feistel f0 f1 w i (rotate_right t)
    → u ≡ undo_rounds 2 f0 f1 2 w i s
unfolding undo_rounds
two_undone w i s e f = rw (f, e)

-- Two rounds and the rest.
pub two_more : (n : ℕ) (w : List ℕ) (i : ℕ) (s : List ℕ) → 0 < n →
    rounds 2 f0 f1 (2 * (n - 1)) w (i + 4) (rounds 2 f0 f1 2 w i s) ≡ rounds 2 f0 f1 (2 * n) w i s
unfolding rounds
two_more n w i s h =
    let e : 2 * (n - 1) ≡ 2 * n - 1 - 1 = omega arith in
    let p : i + 4 ≡ i + 2 + 2 = omega arith in
    rw (
      e,
      p,
      rounds_step 2 f0 f1 (2 * n - 1) w (i + 2) _ (omega arith),
      rounds_step 2 f0 f1 (2 * n) w i s (omega arith),
    )

pub two_more_undone : (n : ℕ) (w : List ℕ) (i j : ℕ) (s : List ℕ) → j ≡ i + 4 →
    undo_rounds 2 f0 f1 2 w i (undo_rounds 2 f0 f1 (2 * n) w j s) ≡ undo_rounds 2 f0 f1 (2 * (n + 1)) w i s
unfolding undo_rounds
two_more_undone n w i j s h =
    let e : 2 * (n + 1) ≡ 2 * n + 1 + 1 = omega arith in
    rw (e, undo_step 2 f0 f1 (2 * n) w (i + 2) j s (omega arith), undo_step 2 f0 f1 (2 * n + 1) w i (i + 2) s refl)
