-- All bodies written one after the other: what is written of the output so far, and what is to
-- come.
use Rattle.std.specs.Prelude.{ℕ, ◌+◌, ◌-◌, ◌*◌, ◌≤◌, ◌≡◌, List, [], ◌∷◌, ◌++◌, length, take, drop}
use Rattle.std.proofs.Common.{refl, ap, ◌∙◌, arith, length-append, length-drop, take-append-drop}
use mathlib.Core.List.{map}
use borrow.Rule.Slice.PartMut.{put_mid}
use Rattle.planbook_spec.specs.Book.{count, sheet_count, contents, bodies, record_count, each_body}
use Rattle.planbook_spec.specs.BookSheets.{WholeSheet, sheets_from, sheets_of, join_bodies, on_body}
use Rattle.planbook_laws.specs.BookLaws.{Formed}
use Rattle.cipher_bytes.specs.ListLaws.{fill_end, fill_part, length_part}

-- The bodies of the sheets ss that are left, with f applied to them.
abbrev pub bodies_left : (List ℕ → List ℕ → List ℕ) → List WholeSheet → List ℕ
bodies_left f ss = join_bodies (map (on_body f) ss)

-- o is the output at first. Before `at` the bodies are written; those of ss are to come.
pub record BodiesFilled (f : List ℕ → List ℕ → List ℕ) (book o out : List ℕ) (ss : List WholeSheet)
    (at : ℕ) : Type 0 where
  pub long : length out ≡ length book
  pub room : at + length (join_bodies ss) ≡ length book
  pub whole : take at out ++ bodies_left f ss
      ≡ take (4 + 24 * sheet_count book) o ++ each_body f (contents book) (bodies book)

-- Bodies that are cut off a row, joined again.
bodies_joined : (es : List (List ℕ)) (bs : List ℕ) → length bs ≡ 16 * record_count es
    → join_bodies (sheets_from es bs) ≡ bs
unfolding join_bodies sheets_from record_count
bodies_joined [] [] h = refl
bodies_joined [] (b ∷ bs) h = let z : ⊥ = omega arith in absurd z
bodies_joined (e ∷ es) bs h =
    ap (λ (l : List ℕ). take (16 * count e) bs ++ l)
    (bodies_joined es (drop (16 * count e) bs) (omega (arith, length-drop (16 * count e) bs)))
    ∙ take-append-drop (16 * count e) bs

-- The bodies of sheets, one after the other.
bodies_mapped : (f : List ℕ → List ℕ → List ℕ) (es : List (List ℕ)) (bs : List ℕ)
    → bodies_left f (sheets_from es bs) ≡ each_body f es bs
unfolding join_bodies sheets_from each_body
bodies_mapped f [] bs = refl
bodies_mapped f (e ∷ es) bs = ap (λ (l : List ℕ). f e (take (16 * count e) bs) ++ l)
    (bodies_mapped f es (drop (16 * count e) bs))

module _ (f : List ℕ → List ℕ → List ℕ) {book : List ℕ} (o : List ℕ) where
  pub bodies_filled_first : {ss : List WholeSheet} → Formed book → length o ≡ length book → ss ≡ sheets_of book
      → BodiesFilled f book o o ss (4 + 24 * sheet_count book)
  bodies_filled_first g l e =
      let size : length (bodies book) ≡ 16 * record_count (contents book) =
      omega (arith, length-drop (24 * sheet_count book) (drop 4 book), length-drop 4 book, g.size) in
      rw e (record {
        long = l;
        room = rw (bodies_joined (contents book) (bodies book) size) (omega (arith, size, g.size));
        whole = rw (bodies_mapped f (contents book) (bodies book)) refl;
      })

  module _ {out : List ℕ} {at : ℕ} where
    -- The body of the sheet s, written.
    module _ {s : WholeSheet} {ss : List WholeSheet} (w : BodiesFilled f book o out (s ∷ ss) at) where
      -- The part of the output for it.
      pub part_fits : at + length s.body ≤ length out
      unfolding join_bodies
      part_fits = omega (arith, w.long, w.room, length-append s.body (join_bodies ss))

      pub bodies_filled_next : length (f s.entry s.body) ≡ length s.body
          → BodiesFilled f book o (put_mid at (at + length s.body - at) out (f s.entry s.body)) ss
          (at + length s.body)
      unfolding join_bodies
      bodies_filled_next l =
          record {
            long = length_part at (length s.body) out (f s.entry s.body) l part_fits ∙ w.long;
            room = omega (arith, w.room, length-append s.body (join_bodies ss));
            whole = fill_part at (length s.body) out (f s.entry s.body) (bodies_left f ss) l part_fits w.whole;
          }

    pub bodies_filled_end : BodiesFilled f book o out [] at → out ≡ take (4 + 24 * sheet_count book) o
        ++ each_body f (contents book) (bodies book)
    unfolding join_bodies
    bodies_filled_end w = fill_end out at _ (omega (arith, w.long, w.room)) w.whole
