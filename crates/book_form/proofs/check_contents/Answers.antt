-- `book_form::check_contents` meets its contract: the answer by each way out of the loop.
use Rattle.std.proofs.Common.{◌≡◌, sym, ◌∙◌, arith, rules, Some, None, ◌-◌, ◌+◌, ◌*◌, ◌<◌, ◌≤◌, length}
use Rattle.std.proofs.lemmas.Result.{err_from_is_err_and}
use Rattle.call_answer.specs.declared.Check.TheVariants.{Entry}
use Rattle.book_entries.specs.Entry.{entry_of}
use Rattle.book_form.specs.Walks.{left_start, left_room, left_step, left_broken, left_wrong, left_right}
use Rattle.book_form.proofs.check_contents.Goals as goal
use Rattle.book_form.proofs.check_contents.Goals.{In_ok-sheet}

-- the sheet that was read
good : (c : In_ok-sheet) → Some c.in_ok-sheet.sheet ≡ entry_of c.loop-entry.previous c.in-Some.entry.now
good c = let found : c.read_entry.result ≡ Some c.in_ok-sheet.sheet = grind arith in sym found ∙ c.read_entry.ensures

pub loop-entry-init : goal.loop-entry-init
loop-entry-init c = (
  search rules,
  let size : 4 + 24 * c.args.sheets - 4 ≡ 24 * c.args.sheets = omega arith in
      rw (c.into_iter-entry-iterator.ensures.into_iter_gives, c.chunks_exact-entry-items.ensures.rest, size)
      (left_start c.args.book.now c.args.sheets c.requires.1 c.requires.0 c.requires.2),
)

pub returns-in_err-sheet : goal.returns-in_err-sheet
returns-in_err-sheet c =
    let p = err_from_is_err_and c.from_residual.result c.from_residual.ensures.1 in
    let none : c.read_entry.result ≡ None = grind arith in
    let check : c.in_err-sheet.field-0.0 ≡ Entry = grind arith in
    rw (p.1, p.2, check)
    (left_broken c.loop-entry.invariant.1 _ _ c.in-Some.ensures.steps.1.0
    (c.in-Some.ensures.steps.1.1 ∙ c.loop-entry.invariant.0) (sym none ∙ c.read_entry.ensures))

pub overflow_add-records : goal.overflow_add-records
overflow_add-records c =
    let room : c.loop-entry.records + c.in_ok-sheet.sheet.count ≤ 65536 =
    left_room c.loop-entry.invariant.1 _ _ c.in-Some.ensures.steps.1.0
    (c.in-Some.ensures.steps.1.1 ∙ c.loop-entry.invariant.0) _ (good (goal.at.overflow_add-records c).In_ok-sheet) in
    search rules

pub loop-entry-preserved : goal.loop-entry-preserved
loop-entry-preserved c = (
  c.in-Some.ensures.steps.0 ∙ c.loop-entry.invariant.0,
  left_step c.loop-entry.invariant.1 _ _ c.in-Some.ensures.steps.1.0
      (c.in-Some.ensures.steps.1.1 ∙ c.loop-entry.invariant.0) _ (good (goal.at.loop-entry-preserved c).In_ok-sheet),
)

pub returns-then-book-end : goal.returns-then-book-end
returns-then-book-end c =
    let short : length c.loop-entry.entry-iterator.rest.now < 24 =
    rw c.loop-entry.invariant.0 at c.in-None.ensures.steps.1.0 in
    left_wrong c.loop-entry.invariant.1 short (rw c.requires.0 at c.if-book-end.true)

pub returns : goal.returns
returns c =
    let short : length c.loop-entry.entry-iterator.rest.now < 24 =
    rw c.loop-entry.invariant.0 at c.in-None.ensures.steps.1.0 in
    left_right c.loop-entry.invariant.1 short (rw c.requires.0 at c.if-book-end.false)
