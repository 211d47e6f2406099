-- A list of cases, each an expression beside the numbers that it must give, and the one statement
-- that all of them hold.
use Rattle.std.specs.Prelude.{ℕ, Bool, true, false, ◌&&◌, ◌≡◌, refl, List, [], ◌∷◌, eqb}
use Rattle.std.proofs.lemmas.Bool.{false≢true}
use Rattle.std.proofs.Common.{ap₂, eqb-true}

infix 20 ◌gives◌
pub data Case : Type 0 where
  ◌gives◌ : List ℕ → List ℕ → Case

pub data AllHold : List Case → Type 0 where
  done : AllHold []
  ◌and◌ : {a b : List ℕ} {cs : List Case} → a ≡ b → AllHold cs → AllHold ((a gives b) ∷ cs)

-- A test that computes: of one case here, of a list of cases below.
unfoldable pub same : List ℕ → List ℕ → Bool
same [] [] = true
same [] (y ∷ ys) = false
same (x ∷ xs) [] = false
same (x ∷ xs) (y ∷ ys) = eqb x y && same xs ys

-- Unfolding this unfolds the test of one case too.
unfoldable pub all_same : List Case → Bool
unfolding same
all_same [] = true
all_same ((xs gives ys) ∷ cs) = same xs ys && all_same cs

-- Where two tests pass together, each passes.
pub both_true : (a b : Bool) → a && b ≡ true → (a ≡ true) × (b ≡ true)
both_true true b e = (refl, e)
both_true false b e = absurd (false≢true e)

same_equal : (xs ys : List ℕ) → same xs ys ≡ true → xs ≡ ys
unfolding same
same_equal [] [] e = refl
same_equal [] (y ∷ ys) e = absurd (false≢true e)
same_equal (x ∷ xs) [] e = absurd (false≢true e)
same_equal (x ∷ xs) (y ∷ ys) e =
    let h : (eqb x y ≡ true) × (same xs ys ≡ true) = both_true _ _ e in
    ap₂ (λ (a : ℕ) (l : List ℕ). a ∷ l) (eqb-true x y h.0) (same_equal xs ys h.1)

pub computed : (cs : List Case) → all_same cs ≡ true → AllHold cs
unfolding all_same
computed [] e = done
computed ((xs gives ys) ∷ cs) e =
    let h : (same xs ys ≡ true) × (all_same cs ≡ true) = both_true _ _ e in
    ◌and◌ (same_equal xs ys h.0) (computed cs h.1)
