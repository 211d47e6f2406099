-- The steps of the key schedule: one and the rest, as the loop that fills a list with round keys
-- cites them.
use Prim.Native.Nat.{ℕ, suc, ◌+◌, ◌-◌, ◌*◌, ◌%◌, ◌≤◌, ◌<◌}
use Rattle.std.specs.Prelude.{Bool, true, false, ◌≡◌, refl, List, [], ◌++◌, eqb, ltb, length, take}
use Rattle.std.proofs.Common.{sym, ◌∙◌, lt-ltb}
use native.Mathlib.Omega.{arith}
use Rattle.clefia_spec.specs.Words.{four_at, xors, choose}
use Rattle.clefia_laws.specs.DigitLaws.{length_xors}
use Rattle.clefia_spec.specs.KeySchedule.{double_swap, step_keys, round_keys}
use Rattle.cipher_bytes.specs.ListLaws.{put_four, fill_four}

-- The two periods: every step uses k and l, or two of every four do.
pub data Period : ℕ → Type 0 where
  always : Period 2
  turns : Period 4

pub always_first : (i : ℕ) {period : ℕ} → period ≡ 2 → true ≡ ltb (i % period) 2
always_first i e = rw e (sym (lt-ltb (i % 2) 2 (omega arith)))

pub first_alternately : (i : ℕ) {period : ℕ} → Period period → (period ≡ 2 → ⊥) → ltb (i % 4) 2 ≡ ltb (i % period) 2
first_alternately i always h = absurd (h refl)
first_alternately i turns h = refl

-- The round keys of the steps that are left, at least one: those of step i, and the rest.
module _ (period base : ℕ) (con : List ℕ) (i : ℕ) (k k' l l' : List ℕ) where
  chosen : Bool → ℕ → List ℕ
  chosen t n =
      step_keys i (four_at con (base + 4 * i)) (choose t k k') (choose t l l')
      ++ round_keys period base con n (i + 1) k k' (choose t (double_swap l) l) (choose t l' (double_swap l'))

  left : (n : ℕ) (t : Bool) → i < n → ltb (i % period) 2 ≡ t
      → round_keys period base con (n - i) i k k' l l' ≡ chosen t (n - (i + 1))
  unfolding chosen round_keys
  left n t h e =
      let m : n - i ≡ suc (n - (i + 1)) = omega arith in
      rw (m, e)

length_step_keys : (i : ℕ) (con k l : List ℕ) → length (step_keys i con k l) ≡ length l
unfolding step_keys
length_step_keys i con k l = either (eqb (i % 2) 1)
  where
    either : (t : Bool) → length (choose t (xors k (xors con l)) (xors con l)) ≡ length l
    either true = length_xors k (xors con l) ∙ length_xors con l
    either false = length_xors con l

-- A turn of the loop: s is filled up to step i, with the steps that are left it makes the whole,
-- and so it does after step i.
module _ (period base : ℕ) (con : List ℕ) (n i : ℕ) (k k' l l' s whole : List ℕ)
    (h : i < n)
    (e : length s ≡ 4 + 4 * n)
    (w : take (4 + 4 * i) s ++ round_keys period base con (n - i) i k k' l l' ≡ whole) where
  pub fill : (t : Bool) → length (choose t l l') ≡ 4 → ltb (i % period) 2 ≡ t →
      take (4 + 4 * (i + 1)) (put_four s (4 + 4 * i)
      (step_keys i (four_at con (base + 4 * i)) (choose t k k') (choose t l l')))
      ++ round_keys period base con (n - (i + 1)) (i + 1) k k' (choose t (double_swap l) l)
      (choose t l' (double_swap l'))
      ≡ whole
  unfolding chosen
  fill t q b =
      let next : 4 + 4 * (i + 1) ≡ 4 + 4 * i + 4 = omega arith in
      rw next
      (fill_four s (4 + 4 * i) _ _ whole
      (length_step_keys i (four_at con (base + 4 * i)) (choose t k k') (choose t l l') ∙ q)
      (omega arith)
      (rw (left period base con i k k' l l' n t h b) at w))

-- No steps are left.
pub none_left : (period base : ℕ) (con : List ℕ) (n i : ℕ) (k k' l l' : List ℕ) → n ≤ i
    → round_keys period base con (n - i) i k k' l l' ≡ []
unfolding round_keys
none_left period base con n i k k' l l' h = let z : n - i ≡ 0 = omega arith in rw z
