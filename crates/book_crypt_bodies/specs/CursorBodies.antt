-- All bodies written one after the other, in a walk by a cursor: what is written of the output so
-- far, and what is to come. (BodiesLaws has the walk by the iterator, which the code takes.)
use Rattle.std.specs.Prelude.{ℕ, ◌+◌, ◌-◌, ◌*◌, ◌≤◌, ◌<◌, ◌≡◌, List, ◌++◌, length, take, drop}
use Rattle.std.proofs.Common.{◌∙◌, arith}
use borrow.Rule.Slice.PartMut.{put_mid}
use Rattle.planbook_spec.specs.Book.{count, pieces, sheet_count, contents, bodies, record_count, each_body}
use Rattle.planbook_laws.specs.WalkLaws.{body_next, bodies_at}
use Rattle.cipher_bytes.specs.ListLaws.{fill_end, fill_part, length_part}
use Rattle.book_sheets.specs.declared.Cursor.{Cursor}
use Rattle.book_sheets.specs.Cursors.{entry_at, body_at, Placed, First, Next, at_end}

-- o is the output at first. Before the cursor the bodies are written, after it they are to come.
pub record CursorFilled (f : List ℕ → List ℕ → List ℕ) (book o out : List ℕ) (c : Cursor) : Type 0 where
  pub placed : Placed book c
  pub long : length out ≡ length book
  pub whole : take c.at out ++ each_body f (pieces 24 c.left (drop c.from book)) (drop c.at book)
      ≡ take (4 + 24 * sheet_count book) o ++ each_body f (contents book) (bodies book)

module _ (f : List ℕ → List ℕ → List ℕ) {book : List ℕ} (o : List ℕ) {c : Cursor} where
  pub cursor_filled_first : First book c → length o ≡ length book → CursorFilled f book o o c
  cursor_filled_first i l = record { placed = i.placed; long = l; whole = rw (i.is, bodies_at book) }

  module _ {out : List ℕ} (w : CursorFilled f book o out c) where
    abbrev body : List ℕ
    body = f (entry_at book c) (body_at book c)

    abbrev size : ℕ
    size = 16 * count (entry_at book c)

    -- The part of the output for the body that the cursor is at.
    pub cursor_part_fits : {n : Cursor} → Next book c n → c.at + size ≤ length out
    cursor_part_fits s = rw w.long s.body_fits

    pub cursor_filled_next : {n : Cursor} → Next book c n → 0 < c.left → length body ≡ size
        → CursorFilled f book o (put_mid c.at (n.at - c.at) out body) n
    cursor_filled_next {n} s h l =
        record {
          placed = s.placed;
          long = rw (at_end s) (length_part c.at size out body l (cursor_part_fits s) ∙ w.long);
          whole =
              rw s.is
              (fill_part c.at size out body (each_body f (pieces 24 (c.left - 1) (drop (c.from + 24) book))
              (drop (c.at + size) book)) l (cursor_part_fits s)
              (rw (body_next f c.left c.from c.at book h) at w.whole));
        }

    pub cursor_filled_end : c.left ≡ 0 → out ≡ take (4 + 24 * sheet_count book) o
        ++ each_body f (contents book) (bodies book)
    unfolding each_body record_count pieces
    cursor_filled_end z =
        let r : c.at + 16 * 0 ≡ length book = rw z at w.placed.rest in
        fill_end out c.at _ (omega (arith, w.long)) (rw z at w.whole)
