-- Sheet i of a book: what the checks of the whole book say of its entry and of its body.
use Rattle.std.specs.Prelude.{ℕ, zero, suc, ◌+◌, ◌*◌, ◌≤◌, ◌<◌, true, ◌&&◌, List, ◌≡◌, leb, ltb, eqb, length, get_or, take, drop}
use Rattle.std.proofs.Common.{◌∙◌, arith, leb-true, length-drop, drop-drop, length-take-le}
use Rattle.clefia_spec.specs.Cases.{both_true}
use Rattle.clefia_spec.specs.Words.{Below}
use Rattle.clefia_laws.specs.DigitLaws.{below_take, below_drop}
use Rattle.clefia_laws.specs.SizedLaws.{Bytes}
use Rattle.planbook_spec.specs.Book.{pieces, trial, count, replicates, entry_holds, entries_hold, sheet_holds, sheet_count}
use Rattle.planbook_spec.specs.Book.{contents, bodies, record_count, sheet_entry, sheet_body, sheets_hold, as_it_is}
use Rattle.planbook_laws.specs.BookLaws.{Formed}

-- `sheet_entry` and `sheet_body` over any entries and any bodies end to end, for induction: what a
-- book has, and what is left of it after a sheet.
abbrev pub nth_entry : ℕ → List ℕ → List ℕ
nth_entry i xs = take 24 (drop (24 * i) xs)

abbrev pub nth_body : ℕ → List ℕ → List ℕ → List ℕ
nth_body i xs bs = take (16 * count (nth_entry i xs)) (drop (16 * record_count (pieces 24 i xs)) bs)

-- The entry after the first one is the first of the rest, and its body the first after the first
-- body.
pub nth_entry_next : (i : ℕ) (xs : List ℕ) → nth_entry (suc i) xs ≡ nth_entry i (drop 24 xs)
nth_entry_next i xs = let e : 24 * suc i ≡ 24 + 24 * i = omega arith in rw (e, drop-drop (24 * i) 24 xs)

pub nth_body_next : (i : ℕ) (xs bs : List ℕ)
    → nth_body (suc i) xs bs ≡ nth_body i (drop 24 xs) (drop (16 * count (take 24 xs)) bs)
unfolding pieces record_count
nth_body_next i xs bs =
    let n : ℕ = record_count (pieces 24 i (drop 24 xs)) in
    let e : 16 * (count (take 24 xs) + n) ≡ 16 * count (take 24 xs) + 16 * n = omega arith in
    rw (nth_entry_next i xs, e, drop-drop (16 * n) (16 * count (take 24 xs)) bs)

-- The records of one sheet more.
pub records_more : (i : ℕ) (xs : List ℕ)
    → record_count (pieces 24 (suc i) xs) ≡ record_count (pieces 24 i xs) + count (take 24 (drop (24 * i) xs))
unfolding pieces record_count
records_more zero xs = omega arith
records_more (suc i) xs = rw nth_entry_next (omega (arith, records_more i (drop 24 xs)))

-- ---- what holds of every sheet holds of sheet i

sheet_holds_lem : (i n : ℕ) (xs bs : List ℕ) → i < n → sheets_hold as_it_is (pieces 24 n xs) bs ≡ true
    → sheet_holds (nth_entry i xs) (nth_body i xs bs) ≡ true
unfolding pieces sheets_hold record_count
sheet_holds_lem i zero xs bs h e = absurd (omega arith)
sheet_holds_lem zero (suc n) xs bs h e =
    (both_true (sheet_holds (take 24 xs) (take (16 * count (take 24 xs)) bs)) _ e).0
sheet_holds_lem (suc i) (suc n) xs bs h e =
    rw (nth_body_next i xs bs, nth_entry_next i xs)
    (sheet_holds_lem i n (drop 24 xs) (drop (16 * count (take 24 xs)) bs) (omega arith)
    (both_true (sheet_holds (take 24 xs) (take (16 * count (take 24 xs)) bs)) _ e).1)

few_replicates : (previous : ℕ) (e : List ℕ) → entry_holds previous e ≡ true → replicates e ≤ 8
unfolding entry_holds
few_replicates previous e h =
    let first : (ltb previous (trial e) && leb 1 (count e) && leb (count e) 1024 && leb (replicates e) 8) ≡ true =
    (both_true _ (eqb (get_or e 7 0) 0) h).0 in
    leb-true (replicates e) 8 (both_true (ltb previous (trial e) && leb 1 (count e) && leb (count e) 1024)
    (leb (replicates e) 8) first).1

entry_few : (i n previous : ℕ) (xs : List ℕ) → i < n → entries_hold previous (pieces 24 n xs) ≡ true
    → replicates (nth_entry i xs) ≤ 8
unfolding pieces entries_hold
entry_few i zero previous xs h e = absurd (omega arith)
entry_few zero (suc n) previous xs h e =
    few_replicates previous (take 24 xs) (both_true (entry_holds previous (take 24 xs)) _ e).0
entry_few (suc i) (suc n) previous xs h e =
    rw (nth_entry_next i xs) (entry_few i n (trial (take 24 xs)) (drop 24 xs) (omega arith)
    (both_true (entry_holds previous (take 24 xs)) _ e).1)

-- The records up to the end of sheet i are no more than all.
pub body_room : (i n : ℕ) (xs : List ℕ) → i < n
    → record_count (pieces 24 i xs) + count (take 24 (drop (24 * i) xs)) ≤ record_count (pieces 24 n xs)
unfolding pieces record_count
body_room i zero xs h = absurd (omega arith)
body_room zero (suc n) xs h = omega arith
body_room (suc i) (suc n) xs h = rw (nth_entry_next i xs) (omega (arith, body_room i n (drop 24 xs) (omega arith)))

-- Of a book that has passed checks 5 to 11.
pub record SheetKept (i : ℕ) (book : List ℕ) : Type 0 where
  pub bytes : Bytes (16 * count (sheet_entry i book)) (sheet_body i book)
  pub holds : sheet_holds (sheet_entry i book) (sheet_body i book) ≡ true
  pub few : replicates (sheet_entry i book) ≤ 8

module _ (i : ℕ) {book : List ℕ} (f : Formed book) (there : i < sheet_count book) where
  pub length_sheet_body : length (sheet_body i book) ≡ 16 * count (sheet_entry i book)
  length_sheet_body =
      let room : record_count (pieces 24 i (drop 4 book)) + count (sheet_entry i book) ≤ record_count (contents book) =
      body_room i (sheet_count book) (drop 4 book) there in
      let all : length (bodies book) ≡ 16 * record_count (contents book) =
      length-drop (24 * sheet_count book) (drop 4 book) ∙ omega (arith, f.size, length-drop 4 book) in
      length-take-le _ _ (omega (arith, length-drop (16 * record_count (pieces 24 i (drop 4 book))) (bodies book)))

  -- The bytes of its body and of its entry.
  pub sheet_bytes : Below 256 book → Bytes (16 * count (sheet_entry i book)) (sheet_body i book)
  sheet_bytes below = record {
    size = length_sheet_body;
    below =
        below_take (16 * count (sheet_entry i book))
        (below_drop (16 * record_count (pieces 24 i (drop 4 book)))
        (below_drop (24 * sheet_count book) (below_drop 4 below)));
  }

  pub entry_bytes : Below 256 book → Bytes 24 (sheet_entry i book)
  entry_bytes below = record {
    size =
        length-take-le 24 (drop (24 * i) (drop 4 book))
        (omega (arith, f.size, length-drop 4 book, length-drop (24 * i) (drop 4 book)));
    below = below_take 24 (below_drop (24 * i) (below_drop 4 below));
  }

  pub sheet_kept : Below 256 book → entries_hold 0 (contents book) ≡ true
      → sheets_hold as_it_is (contents book) (bodies book) ≡ true → SheetKept i book
  sheet_kept below entries records =
      record {
        bytes = sheet_bytes below;
        holds = sheet_holds_lem i (sheet_count book) (drop 4 book) (bodies book) there records;
        few = entry_few i (sheet_count book) 0 (drop 4 book) there entries;
      }
