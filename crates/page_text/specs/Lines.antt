-- A page that is written line by line: up to line i it is written.
use Rattle.std.specs.Prelude.{ℕ, ◌+◌, ◌-◌, ◌*◌, ◌≤◌, ◌<◌, List, ◌++◌, ◌≡◌, length, take, drop}
use Rattle.std.proofs.Common.{ap, ◌∙◌, arith}
use native.Mathlib.Nat.{sub-zero}
use borrow.Rule.Slice.PartMut.{put_mid}
use Rattle.planbook_spec.specs.Book.{pieces}
use Rattle.planbook_spec.specs.Page.{heading, line, lines}
use Rattle.planbook_laws.specs.WalkLaws.{pieces_next}
use Rattle.planbook_laws.specs.PageLaws.{length_line}
use Rattle.cipher_bytes.specs.ListLaws.{fill_end, fill_part, length_part}

pub record Lined (count : ℕ) (body out : List ℕ) (i : ℕ) : Type 0 where
  pub size : length out ≡ 32 * (count + 1)
  pub whole : take (32 * (i + 1)) out ++ lines (pieces 16 (count - i) (drop (16 * i) body))
      ≡ heading ++ lines (pieces 16 count body)

pub lined_start : (count : ℕ) (body : List ℕ) {out : List ℕ} → length out ≡ 32 * (count + 1) → take 32 out ≡ heading
    → Lined count body out 0
lined_start count body l h = record {
  size = l;
  whole =
      rw sub-zero (ap (λ (t : List ℕ). t ++ lines (pieces 16 count body)) h);
}

module _ {count : ℕ} {body out : List ℕ} {i : ℕ} (w : Lined count body out i) where
  pub line_room : i < count → 32 * (i + 1) + 32 ≤ length out
  line_room h = omega (arith, w.size)

  pub lined_next : i < count → Lined count body
      (put_mid (32 * (i + 1)) (32 * (i + 1) + 32 - 32 * (i + 1)) out (line (take 16 (drop (16 * i) body)))) (i + 1)
  unfolding lines
  lined_next h =
      let record_i : List ℕ = take 16 (drop (16 * i) body) in
      let to : 32 * (i + 1 + 1) ≡ 32 * (i + 1) + 32 = omega arith in
      let at : 16 * (i + 1) ≡ 16 * i + 16 = omega arith in
      let left : count - (i + 1) ≡ count - i - 1 = omega arith in
      record {
        size = length_part (32 * (i + 1)) 32 out (line record_i) (length_line record_i) (line_room h) ∙ w.size;
        whole =
            rw (to, at, left) (fill_part (32 * (i + 1)) 32 out (line record_i) _ (length_line record_i)
            (line_room h) (rw (pieces_next 16 (count - i) (16 * i) body (omega arith)) at w.whole));
      }

  pub lined_end : count ≤ i → out ≡ heading ++ lines (pieces 16 count body)
  unfolding lines pieces
  lined_end z =
      let none : count - i ≡ 0 = omega arith in
      fill_end out (32 * (i + 1)) _ (omega (arith, w.size)) (rw none at w.whole)
