-- The pieces of a list, as the iterator over its chunks gives them.
use Rattle.std.specs.Prelude.{refl, ℕ, zero, suc, ◌*◌, ◌≡◌, ◌<◌, List, [], ◌∷◌, ◌++◌, length, take, drop}
use Rattle.std.proofs.Common.{sym, ap, ◌∙◌, arith, length-append, length-drop}
use Rattle.std.proofs.Math.Seq.{take-append_seam, drop-append_seam}
use Rattle.std.proofs.lemmas.Iterator.{YieldsList}
use Rattle.std.specs.Iterator.{AlwaysYields}
use Rattle.std.specs.List.{list_all}
use Rattle.std.specs.Slice.Iter.{chunks_exact_steps, chunks_exact_rest, chunks_exact_size}
use Rattle.std.specs.declared.slice.ChunksExact.{ChunksExact}
use Rattle.planbook_spec.specs.Book.{pieces, record_holds, all_records_hold}

-- The first k of a list, and what follows them.
pub front : (k : ℕ) (l a b : List ℕ) → l ≡ a ++ b → length a ≡ k → (a ≡ take k l) × (b ≡ drop k l)
front k l a b e h = rw (e, ← h) (sym (take-append_seam a b), sym (drop-append_seam a b))

pieces_come : (k n : ℕ) (s : ChunksExact ℕ) → 0 < k → chunks_exact_size s ≡ k → length (chunks_exact_rest s) ≡ n * k
    → AlwaysYields chunks_exact_steps (λ x. x.now) s (pieces k n (chunks_exact_rest s))
unfolding pieces
pieces_come k zero s z e h = λ x j p. omega (arith, ap length p.1.0, length-append x.now (chunks_exact_rest j), p.1.1)
pieces_come k (suc n) s z e h = (
  λ j p. omega (arith, p.1.0),
  λ x j p. let f : (x.now ≡ take k (chunks_exact_rest s)) × (chunks_exact_rest j ≡ drop k (chunks_exact_rest s)) =
      front k (chunks_exact_rest s) x.now (chunks_exact_rest j) p.1.0 (p.1.1 ∙ e) in (
        f.0,
        rw (← f.1)
            (pieces_come k n j z (p.0 ∙ e) (rw f.1 (length-drop k (chunks_exact_rest s) ∙ omega (arith, h)))),
      ),
)

-- The chunks of k bytes are the n pieces that there are.
pub yields_pieces : {s : ChunksExact ℕ} (k n : ℕ) (l : List ℕ) → 0 < k → chunks_exact_size s ≡ k
    → chunks_exact_rest s ≡ l → length l ≡ n * k
    → YieldsList chunks_exact_steps (λ x. x.now) s (pieces k n l)
yields_pieces k n l z e f h = record { runs = rw (← f) (pieces_come k n _ z e (ap length f ∙ h)) }

-- Every record holds, as a test of each and by the definition.
pub all_hold : (e : List ℕ) (rs : List (List ℕ)) → list_all (record_holds e) rs ≡ all_records_hold e rs
unfolding all_records_hold
all_hold e [] = refl
all_hold e (r ∷ rs) = rw (all_hold e rs)
