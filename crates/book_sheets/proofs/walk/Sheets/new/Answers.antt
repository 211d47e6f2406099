use Rattle.std.proofs.Common.{◌≡◌, ◌*◌, ◌≤◌, length, drop, rules, arith, length-drop}
use Rattle.planbook_spec.specs.Book.{sheet_count, contents}
use Rattle.book_sheets.specs.Rows.{AreBytes, bytes_take, bytes_drop, entries_of, entries_cut}
use Rattle.book_sheets.proofs.walk.Sheets.new.Goals as goal
use Rattle.book_sheets.proofs.walk.Sheets.new.Goals.{After-split_at-2}

-- the entries that were cut off are the contents
cut : (c : After-split_at-2) → entries_of c.split_at-2.result.0.now ≡ contents c.args.book.now
cut c =
    let s = c.split_at.result.1.now in
    let room : 24 * sheet_count c.args.book.now ≤ length (drop 4 c.args.book.now) =
    simp length-drop (omega (arith, c.requires.size)) in
    rw (c.split_at-2.ensures.front, c.u16_at.ensures, c.split_at.ensures.back)
    (entries_cut (sheet_count c.args.book.now) (drop 4 c.args.book.now) room)

pub invariant_of-result : goal.invariant_of-result
invariant_of-result c = record {
  entries_len = omega (arith, c.split_at-2.ensures.front_len);
  bodies_len =
      rw (cut (goal.at.invariant_of-result c).After-split_at-2) (omega (
        arith,
        c.split_at-2.ensures.back_len,
        c.split_at.ensures.back_len,
        c.u16_at.ensures,
        c.requires.size,
      ));
  entries_bytes = let own : AreBytes c.args.book.now = λ i h. search rules in
      rw (c.split_at-2.ensures.front, c.split_at.ensures.back) (bytes_take _ _ (bytes_drop 4 _ own));
  bodies_bytes = let own : AreBytes c.args.book.now = λ i h. search rules in
      rw (c.split_at-2.ensures.back, c.split_at.ensures.back) (bytes_drop _ _ (bytes_drop 4 _ own));
}

pub returns : goal.returns
returns c =
    rw (cut (goal.at.returns c).After-split_at-2, c.split_at-2.ensures.back, c.u16_at.ensures, c.split_at.ensures.back)
