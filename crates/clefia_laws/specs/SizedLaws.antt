-- Lists of a known length whose numbers are below a bound: n bytes, n words. And what it means that
-- one function on lists undoes another.
use Rattle.std.specs.Prelude.{ℕ, ◌+◌, ◌^◌, List, ◌++◌, ◌≡◌, length, take, drop}
use Rattle.std.proofs.Common.{sym, ap, ap₂, ◌∙◌, arith, length-append, length-drop, length-take-le}
use Rattle.clefia_spec.specs.Words.{xors, Below}
use Rattle.clefia_laws.specs.DigitLaws.{below_append, below_take, below_drop, length_xors, below_xors}

-- A list of n numbers below b.
pub record Sized (b n : ℕ) (xs : List ℕ) : Type 0 where
  pub size : length xs ≡ n
  pub below : Below b xs

abbrev pub Bytes : ℕ → List ℕ → Type 0
Bytes n xs = Sized 256 n xs

-- A list of n words.
abbrev pub Words : ℕ → List ℕ → Type 0
Words n xs = Sized (2 ^ 32) n xs

module _ {b : ℕ} where
  pub sized_append : (m n : ℕ) {k : ℕ} {xs ys : List ℕ} → Sized b m xs → Sized b n ys → m + n ≡ k → Sized b k (xs ++ ys)
  sized_append m n {k} {xs} {ys} p q e =
      record {
        size = length-append xs ys ∙ ap₂ ◌+◌ p.size q.size ∙ e;
        below =
            below_append p.below q.below;
      }

  pub sized_take : (k m : ℕ) {n : ℕ} {xs : List ℕ} → Sized b n xs → n ≡ k + m → Sized b k (take k xs)
  sized_take k m {n} {xs} p e =
      let s : length xs ≡ n = p.size in
      record { size = length-take-le k xs (omega arith); below = below_take k p.below }

  pub sized_drop : (k m : ℕ) {n : ℕ} {xs : List ℕ} → Sized b n xs → n ≡ k + m → Sized b m (drop k xs)
  sized_drop k m {n} {xs} p e =
      let s : length xs ≡ n = p.size in
      record { size = omega (arith, length-drop k xs); below = below_drop k p.below }

pub sized_xors : (w : ℕ) {m n : ℕ} {xs ys : List ℕ} → Sized (2 ^ w) m xs → Sized (2 ^ w) n ys
    → Sized (2 ^ w) n (xors xs ys)
sized_xors w {xs = xs} {ys = ys} p q = record
    { size = length_xors xs ys ∙ q.size; below = below_xors w p.below q.below }

-- f keeps P, and g undoes f: so f is injective there.
pub record Undone (P : List ℕ → Type 0) (f g : List ℕ → List ℕ) : Type 0 where
  pub keeps : (x : List ℕ) → P x → P (f x)
  pub back : (x : List ℕ) → P x → g (f x) ≡ x

pub injective : {P : List ℕ → Type 0} {f g : List ℕ → List ℕ} → Undone P f g → {a b : List ℕ} → P a → P b → f a ≡ f b
    → a ≡ b
injective {g = g} u {a} {b} p q e = sym (u.back a p) ∙ ap g e ∙ u.back b q
