-- A cursor through the sheets of a book: what holds of it, and what is between it and the next one.
use Rattle.std.specs.Prelude.{ℕ, ◌+◌, ◌-◌, ◌*◌, ◌≤◌, ◌<◌, ◌≡◌, refl, List, length, take, drop}
use Rattle.std.proofs.Common.{sym, ◌∙◌, add-one, arith, drop-drop}
use Rattle.planbook_spec.specs.Book.{count, pieces, sheet_count, record_count}
use Rattle.planbook_laws.specs.WalkLaws.{count_next}
use Rattle.planbook_laws.specs.BookLaws.{Formed}
use Rattle.planbook_laws.specs.SheetLaws.{records_more}
use Rattle.planbook_laws.specs.Parts.{part, part_length}
use Rattle.book_sheets.specs.declared.Cursor.{Cursor}

-- The entry and the body of the sheet that a cursor is at.
abbrev pub entry_at : List ℕ → Cursor → List ℕ
entry_at book c = take 24 (drop c.from book)

abbrev pub body_at : List ℕ → Cursor → List ℕ
body_at book c = take (16 * count (entry_at book c)) (drop c.at book)

-- `left` entries are to come, and then their bodies, to the end of the book.
pub record Placed (book : List ℕ) (c : Cursor) : Type 0 where
  pub place : c.from + 24 * c.left ≡ 4 + 24 * sheet_count book
  pub room : 4 + 24 * sheet_count book ≤ length book
  pub rest : c.at + 16 * record_count (pieces 24 c.left (drop c.from book)) ≡ length book

-- The first cursor of a book.
pub record First (book : List ℕ) (c : Cursor) : Type 0 where
  pub is : c ≡ record { from = 4; at = 4 + 24 * sheet_count book; left = sheet_count book }
  pub placed : Placed book c

pub at_first : {book : List ℕ} → Formed book → {c : Cursor}
    → c ≡ record { from = 4; at = 4 + 24 * sheet_count book; left = sheet_count book } → First book c
at_first f e = record {
  is = e;
  placed =
      rw e (record { place = refl; room = omega (arith, f.size); rest = sym f.size });
}

-- The cursor n after c: the entry and the body between them are within the book.
pub record Next (book : List ℕ) (c n : Cursor) : Type 0 where
  pub is : n ≡ record { from = c.from + 24; at = c.at + 16 * count (entry_at book c); left = c.left - 1 }
  pub entry_fits : c.from + 24 ≤ length book
  pub body_fits : c.at + 16 * count (entry_at book c) ≤ length book
  pub placed : Placed book n

pub at_next : {book : List ℕ} {c n : Cursor} → Placed book c → 0 < c.left
    → n ≡ record { from = c.from + 24; at = c.at + 16 * count (entry_at book c); left = c.left - 1 } → Next book c n
at_next {book} {c} p h e =
    let r : c.at + 16 * (count (entry_at book c) + record_count (pieces 24 (c.left - 1) (drop (c.from + 24) book)))
    ≡ length book = rw (count_next c.left c.from book h) at p.rest in
    record {
      is = e;
      entry_fits = omega (arith, p.place, p.room);
      body_fits = omega arith;
      placed = rw e (record { place = omega (arith, p.place); room = p.room; rest = omega arith });
    }

-- The two parts, as code cuts them out of the book.
module _ {book : List ℕ} {c n : Cursor} (s : Next book c n) where
  pub from_next : n.from ≡ c.from + 24
  from_next = rw s.is

  pub left_next : n.left ≡ c.left - 1
  left_next = rw s.is

  pub at_end : n.at ≡ c.at + 16 * count (entry_at book c)
  at_end = rw s.is

  pub entry_part : take (n.from - c.from) (drop c.from book) ≡ entry_at book c
  entry_part = part 24 c.from book from_next

  pub entry_length : length (take (n.from - c.from) (drop c.from book)) ≡ 24
  entry_length = part_length 24 c.from book from_next s.entry_fits

  pub body_part : take (n.at - c.at) (drop c.at book) ≡ body_at book c
  body_part = part _ c.at book at_end

  pub body_length : length (take (n.at - c.at) (drop c.at book)) ≡ 16 * count (entry_at book c)
  body_length = part_length _ c.at book at_end s.body_fits

-- ---- up to sheet i

-- Where the body of sheet i begins: after head, contents, and the records of the sheets before it.
abbrev pub body_start : ℕ → List ℕ → ℕ
body_start i book = 4 + 24 * sheet_count book + 16 * record_count (pieces 24 i (drop 4 book))

-- The cursor that has come to sheet i.
pub record Reached (book : List ℕ) (i : ℕ) (c : Cursor) : Type 0 where
  pub from : c.from ≡ 4 + 24 * i
  pub start : c.at ≡ body_start i book
  pub left : c.left ≡ sheet_count book - i
  pub placed : Placed book c

pub reached_first : {book : List ℕ} {c : Cursor} → First book c → Reached book 0 c
unfolding pieces record_count
reached_first f = record {
  from = rw f.is;
  start = rw f.is (omega arith);
  left =
      rw f.is (omega arith);
  placed = f.placed;
}

pub reached_next : {book : List ℕ} {i : ℕ} {c n : Cursor} → Reached book i c → Next book c n → Reached book (i + 1) n
reached_next {book} {i} {c} r s =
    let e : drop (24 * i) (drop 4 book) ≡ drop c.from book = drop-drop (24 * i) 4 book ∙ rw r.from in
    let more : record_count (pieces 24 (i + 1) (drop 4 book))
    ≡ record_count (pieces 24 i (drop 4 book)) + count (entry_at book c) =
    rw (add-one, ← e) (records_more i (drop 4 book)) in
    record {
      from = rw s.is (omega (arith, r.from));
      start = rw s.is (omega (arith, r.start));
      left = rw s.is (omega (arith, r.left));
      placed = s.placed;
    }
