-- The first entry is cut off, and as many records as it says.
use Rattle.std.proofs.Common.{◌≡◌, ◌*◌, ◌≤◌, length, take, refl, ap, arith, length-take-le}
use Rattle.planbook_spec.specs.Book.{count}
use Rattle.planbook_spec.specs.BookSheets.{sheets_from}
use Rattle.book_sheets.specs.Rows.{bytes_take, bytes_drop, no_entries, body_fits, entries_after, bodies_after, first_sheet}
use Rattle.book_sheets.proofs.walk.SheetsIterator.next.Goals as goal
use Rattle.book_sheets.proofs.walk.SheetsIterator.next.Goals.{After-u16_at}

counted : (c : After-u16_at) → c.u16_at.result ≡ count (take 24 c.args.self.now.entries.now)
counted c = rw c.in_ok-entry.ensures.cases.1 at c.u16_at.ensures

fits : (c : After-u16_at) → 16 * c.u16_at.result ≤ length c.args.self.now.bodies.now
fits c =
    let s = c.args.self.now in
    rw (counted c) (body_fits s.entries.now s.bodies.now c.in_ok-entry.ensures.cases.0 s.entries_len s.bodies_len)

pub returns-in_err-entry-clause-steps : goal.returns-in_err-entry-clause-steps
unfolding sheets_from
returns-in_err-entry-clause-steps c =
    let none = no_entries c.args.self.now.entries.now c.in_err-entry.ensures.cases in
    rw (c.from_residual.ensures, none) (refl, refl)

pub overflow_mul-u16_at : goal.overflow_mul-u16_at
overflow_mul-u16_at c = omega (arith, fits (goal.at.overflow_mul-u16_at c).After-u16_at)

pub split_at-requires : goal.split_at-requires
split_at-requires c = fits (goal.at.split_at-requires c).After-u16_at

pub invariant_of-result : goal.invariant_of-result
invariant_of-result c =
    let s = c.args.self.now in
    let e = c.in_ok-entry.ensures.cases in
    record {
      entry_len = rw e.1 (length-take-le 24 s.entries.now e.0);
      body_len = rw (← c.u16_at.ensures) c.split_at.ensures.front_len;
      entry_bytes = rw e.1 (bytes_take 24 _ s.entries_bytes);
      body_bytes = rw c.split_at.ensures.front (bytes_take _ _ s.bodies_bytes);
    }

pub invariant_of-self : goal.invariant_of-self
invariant_of-self c =
    let s = c.args.self.now in
    let e = c.in_ok-entry.ensures.cases in
    record {
      entries_len = rw e.2 (entries_after s.entries.now s.bodies.now e.0 s.entries_len s.bodies_len);
      bodies_len = rw (c.split_at.ensures.back, counted (goal.at.invariant_of-self c).After-u16_at, e.2)
          (bodies_after s.entries.now s.bodies.now e.0 s.entries_len s.bodies_len);
      entries_bytes = rw e.2 (bytes_drop 24 _ s.entries_bytes);
      bodies_bytes = rw c.split_at.ensures.back (bytes_drop _ _ s.bodies_bytes);
    }

pub returns-clause-steps : goal.returns-clause-steps
returns-clause-steps c =
    let s = c.args.self.now in
    let e = c.in_ok-entry.ensures.cases in
    rw (
      c.split_at.ensures.front,
      c.split_at.ensures.back,
      counted (goal.at.returns-clause-steps c).After-u16_at,
      e.1,
      e.2,
    )
    (first_sheet s.entries.now s.bodies.now e.0 s.entries_len s.bodies_len)

pub returns-clause-goes : goal.returns-clause-goes
returns-clause-goes c =
    let fewer = ap length (returns-clause-steps c) in
    record { on = λ _. (tt, tt, omega (arith, fewer)); keeps = tt; rests = λ _. tt }
