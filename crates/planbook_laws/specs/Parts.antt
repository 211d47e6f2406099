-- Laws of a part of a row, as code cuts it: from `at` to `end`.
use Rattle.std.specs.Prelude.{ℕ, ◌+◌, ◌-◌, ◌≤◌, ◌≡◌, List, length, take, drop}
use Rattle.std.proofs.Common.{arith, length-take, length-drop}

-- A part of k elements from `at` on.
pub part : (k at : ℕ) {end : ℕ} (bs : List ℕ) → end ≡ at + k → take (end - at) (drop at bs) ≡ take k (drop at bs)
part k at {end} bs h = let e : end - at ≡ k = omega arith in rw e

pub part_length : (k at : ℕ) {end : ℕ} (bs : List ℕ) → end ≡ at + k → at + k ≤ length bs
    → length (take (end - at) (drop at bs)) ≡ k
part_length k at bs e h = simp (length-take, length-drop) (omega arith)
