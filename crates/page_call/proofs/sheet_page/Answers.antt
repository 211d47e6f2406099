-- `page_call::sheet_page` meets its contract: check 4, and then the page of the sheet's body.
use native.Mathlib.Omega.{arith}
use Rattle.book_sheets.specs.Cursors.{at_end}
use Rattle.page_call.specs.Sheets.{length_between, wrong_length, page_written}
use Rattle.page_call.proofs.sheet_page.Goals as goal

pub next-following-requires : goal.next-following-requires
next-following-requires c = (
  c.seek-cursor.ensures.placed,
  omega (arith, c.seek-cursor.ensures.left, c.requires.1),
)

pub overflow_sub-count : goal.overflow_sub-count
overflow_sub-count c = omega (arith, at_end c.next-following.ensures)

pub overflow_mul-count : goal.overflow_mul-count
overflow_mul-count c = omega (
  arith,
  at_end c.next-following.ensures,
  c.next-following.ensures.body_fits,
  c.requires.0.short,
)

pub returns-then-out-count : goal.returns-then-out-count
returns-then-out-count c =
    wrong_length c.args.sheet c.requires.0 c.requires.1 c.seek-cursor.ensures c.next-following.ensures
    c.args.out.now c.if-out-count.true

pub slice_bounds-write_page-count : goal.slice_bounds-write_page-count
slice_bounds-write_page-count c = omega (arith, at_end c.next-following.ensures)

pub slice_bounds-write_page-start : goal.slice_bounds-write_page-start
slice_bounds-write_page-start c = omega (arith, at_end c.next-following.ensures)

pub slice_bounds-write_page-end : goal.slice_bounds-write_page-end
slice_bounds-write_page-end c = omega (arith, at_end c.next-following.ensures, c.next-following.ensures.body_fits)

pub write_page-requires : goal.write_page-requires
write_page-requires c = (
  length_between c.args.sheet c.requires.0 c.requires.1 c.seek-cursor.ensures c.next-following.ensures,
  c.if-out-count.false,
)

pub returns : goal.returns
returns c =
    page_written c.args.sheet c.requires.0 c.requires.1 c.seek-cursor.ensures c.next-following.ensures
    c.args.out.now c.if-out-count.false c.write_page.ensures
