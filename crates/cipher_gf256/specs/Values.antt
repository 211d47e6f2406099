-- A list of a function's values, which is what a table of it holds.
use Rattle.std.specs.Prelude.{ℕ, zero, suc, ◌+◌, ◌<◌, ◌≡◌, refl, List, [], ◌∷◌, get_or, length}
use Rattle.std.proofs.Common.{suc-le-suc, add-zero, zero-add, add-suc, suc-add, le_of_suc-le-suc, not-suc-le-zero, zero-lt-suc, ap, sym, ◌∙◌}

-- The n values of f from i on.
unfoldable pub values {ℓ} : {A : Type ℓ} → (ℕ → A) → ℕ → ℕ → List A
values f i zero = []
values f i (suc n) = f i ∷ values f (suc i) n

value_from {ℓ} : {A : Type ℓ} (f : ℕ → A) (i n k : ℕ) (d : A) → k < n → get_or (values f i n) k d ≡ f (i + k)
unfolding values
value_from f i zero k d h = absurd (not-suc-le-zero h)
value_from f i (suc n) zero d h = ap f (sym (add-zero i))
value_from f i (suc n) (suc k) d h = value_from f (suc i) n k d (le_of_suc-le-suc h)
    ∙ ap f (suc-add i k ∙ sym (add-suc i k))

-- The value at place k of the list.
pub value {ℓ} : {A : Type ℓ} (f : ℕ → A) (n k : ℕ) (d : A) → k < n → get_or (values f 0 n) k d ≡ f k
value f n k d h = value_from f 0 n k d h ∙ ap f (zero-add k)

-- As many as were asked for.
pub length_values {ℓ} : {A : Type ℓ} (f : ℕ → A) (i n : ℕ) → length (values f i n) ≡ n
unfolding values
length_values f i zero = refl
length_values f i (suc n) = ap suc (length_values f (suc i) n)

-- Functions that agree at these arguments have the same values.
values_from_ext {ℓ} : {A : Type ℓ} (f g : ℕ → A) (i n : ℕ) → ((k : ℕ) → k < n → f (i + k) ≡ g (i + k))
    → values f i n ≡ values g i n
unfolding values
values_from_ext f g i zero h = refl
values_from_ext f g i (suc n) h =
    let first : f i ≡ g i = rw (add-zero i) at (h zero (zero-lt-suc n)) in
    rw (first, values_from_ext f g (suc i) n (λ k l. rw (suc-add i k, ← add-suc i k) (h (suc k) (suc-le-suc l))))

pub values_ext {ℓ} : {A : Type ℓ} (f g : ℕ → A) (n : ℕ) → ((x : ℕ) → x < n → f x ≡ g x) → values f 0 n ≡ values g 0 n
values_ext f g n h = values_from_ext f g 0 n (λ k l. rw (zero-add k) (h k l))
