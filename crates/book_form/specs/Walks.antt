-- Laws of the walk through the contents: the answer by each way out.
use Rattle.std.specs.Prelude.{ℕ, ◌+◌, ◌-◌, ◌*◌, ◌≤◌, ◌<◌, ◌≡◌, true, List, ◌++◌, length, take, drop, Ok, Err, Some, None}
use Rattle.std.proofs.Math.Path.{refl, sym, ap}
use Rattle.std.proofs.Math.Bool.{false}
use Rattle.std.proofs.Common.{◌∙◌, arith, append_assoc, length-append, length-drop}
use Rattle.std.proofs.Math.Seq.{drop-drop}
use Rattle.std.proofs.lemmas.List.{length-take-le, take-append-drop}
use borrow.Author.Tests.{eq-eqb, ne_eqb}
use Rattle.planbook_spec.specs.Outcome.{judged}
use Rattle.planbook_laws.specs.WalkLaws.{pieces_next}
use Rattle.planbook_spec.specs.Book.{trial, count, pieces, entry_holds, entries_hold, sheet_count, contents, record_count}
use Rattle.planbook_spec.specs.Book.{form_checks}
use Rattle.book_entries.specs.declared.entry.Sheet.{Sheet}
use Rattle.book_entries.specs.Entry.{entry_of}
use Rattle.book_form.specs.Form.{contents_answer}
use Rattle.book_entries.specs.Pieces.{front}
use Rattle.book_entries.specs.EntryLaws.{Held, held, broken_by}

-- ---- the contents, entry by entry: `left` entries are to come, the first of them at `at`

pub record Walked (book : List ℕ) (previous records at left : ℕ) : Type 0 where
  pub place : at + 24 * left ≡ 4 + 24 * sheet_count book
  pub room : records + 1024 * left ≤ 65536
  pub holds : entries_hold previous (pieces 24 left (drop at book)) ≡ entries_hold 0 (contents book)
  pub counted : records + record_count (pieces 24 left (drop at book)) ≡ record_count (contents book)

pub walk_start : (book : List ℕ) (sheets : ℕ) → sheets ≤ 64 → sheets ≡ sheet_count book → Walked book 0 0 4 sheets
walk_start book sheets h e = rw e (record { place = refl; room = omega arith; holds = refl; counted = omega arith })

module _ {book : List ℕ} {previous records at left : ℕ} (w : Walked book previous records at left) where
  pub walk_step : (s : Sheet) → 0 < left → Some s ≡ entry_of previous (take 24 (drop at book))
      → Walked book s.trial (records + s.count) (at + 24) (left - 1)
  unfolding entries_hold record_count
  walk_step s h g =
      let k : Held previous (take 24 (drop at book)) s = held previous (take 24 (drop at book)) s g in
      let few : s.count ≤ 1024 = rw k.sheet k.few in
      let ts : s.trial ≡ trial (take 24 (drop at book)) = ap (λ (x : Sheet). x.trial) k.sheet in
      let cs : s.count ≡ count (take 24 (drop at book)) = ap (λ (x : Sheet). x.count) k.sheet in
      record {
        place = omega (arith, w.place);
        room = omega (arith, w.room);
        holds = rw ts (rw (pieces_next 24 left at book h, k.holds) at w.holds);
        counted = omega (arith, rw (pieces_next 24 left at book h, ← cs) at w.counted);
      }

  -- The answer, by each way out of the walk.
  pub walk_broken : 0 < left → None ≡ entry_of previous (take 24 (drop at book)) → Err 9 ≡ contents_answer book
  unfolding entries_hold form_checks judged
  walk_broken h g =
      let no : entry_holds previous (take 24 (drop at book)) ≡ false =
      broken_by previous (take 24 (drop at book)) _ refl g in
      let q : false ≡ entries_hold 0 (contents book) = rw (pieces_next 24 left at book h, no) at w.holds in
      rw (← q)

  module _ (z : left ≡ 0) where
    all_hold : entries_hold 0 (contents book) ≡ true
    unfolding entries_hold pieces
    all_hold = sym (rw z at w.holds)

    all_counted : record_count (contents book) ≡ records
    unfolding record_count pieces
    all_counted = omega (arith, rw z at w.counted)

    pub walk_wrong : (length book ≡ 4 + 24 * sheet_count book + 16 * records → ⊥) → Err 10 ≡ contents_answer book
    unfolding form_checks judged
    walk_wrong h = rw (all_hold, all_counted, ne_eqb _ _ h)

    pub walk_right : length book ≡ 4 + 24 * sheet_count book + 16 * records → Ok records ≡ contents_answer book
    unfolding form_checks judged
    walk_right h = rw (all_hold, all_counted, eq-eqb _ _ h)

-- ---- the same for an iterator over the entries: `rest` is what it has left of the book

pub record Left (book : List ℕ) (previous records : ℕ) (rest : List ℕ) : Type 0 where
  pub left : ℕ
  pub at : ℕ
  pub after : List ℕ
  pub long : length rest ≡ 24 * left
  pub place : rest ++ after ≡ drop at book
  pub walked : Walked book previous records at left

pub left_start : (book : List ℕ) (sheets : ℕ) → sheets ≤ 64 → sheets ≡ sheet_count book → 4 + 24 * sheets ≤ length book
    → Left book 0 0 (take (24 * sheets) (drop 4 book))
left_start book sheets h e l = record {
  left = sheets;
  at = 4;
  after = drop (24 * sheets) (drop 4 book);
  long = length-take-le (24 * sheets) (drop 4 book) (omega (arith, length-drop 4 book));
  place = take-append-drop (24 * sheets) (drop 4 book);
  walked = walk_start book sheets h e;
}

module _ {book : List ℕ} {previous records : ℕ} {rest : List ℕ} (w : Left book previous records rest) where
  -- The entry e comes, and r is what is left after it.
  module _ (e r : List ℕ) (cut : rest ≡ e ++ r) (long : length e ≡ 24) where
    some_left : 0 < w.left
    some_left = omega (arith, w.long, ap length cut, length-append e r)

    next : (e ≡ take 24 (drop w.at book)) × (r ++ w.after ≡ drop 24 (drop w.at book))
    next = front 24 (drop w.at book) e (r ++ w.after)
        (sym w.place ∙ ap (λ (l : List ℕ). l ++ w.after) cut ∙ append_assoc e r w.after) long

    pub left_room : (s : Sheet) → Some s ≡ entry_of previous e → records + s.count ≤ 65536
    left_room s g = let k : Held previous e s = held previous e s g in
        let few : s.count ≤ 1024 = rw k.sheet k.few in
        let z : 0 < w.left = some_left in omega (arith, w.walked.room)

    pub left_step : (s : Sheet) → Some s ≡ entry_of previous e → Left book s.trial (records + s.count) r
    left_step s g = record {
      left = w.left - 1;
      at = w.at + 24;
      after = w.after;
      long = omega (arith, w.long, ap length cut, length-append e r);
      place = next.1 ∙ drop-drop 24 w.at book;
      walked = walk_step w.walked s some_left (g ∙ ap (entry_of previous) next.0);
    }

    pub left_broken : None ≡ entry_of previous e → Err 9 ≡ contents_answer book
    left_broken g = walk_broken w.walked some_left (g ∙ ap (entry_of previous) next.0)

  -- No entry comes.
  module _ (short : length rest < 24) where
    none_left : w.left ≡ 0
    none_left = omega (arith, w.long)

    pub left_wrong : (length book ≡ 4 + 24 * sheet_count book + 16 * records → ⊥) → Err 10 ≡ contents_answer book
    left_wrong h = walk_wrong w.walked none_left h

    pub left_right : length book ≡ 4 + 24 * sheet_count book + 16 * records → Ok records ≡ contents_answer book
    left_right h = walk_right w.walked none_left h
