use mathlib.Core.Path.{◌≡◌, refl, sym, ◌∙◌}
use Prim.Native.Nat.{◌+◌, ◌*◌, ◌≤◌}
use native.Mathlib.Omega.{arith}
use lib.ListN.{length}
use Rattle.planbook_spec.specs.Book.{count}
use Rattle.planbook_laws.specs.WalkLaws.{number_piece}
use Rattle.book_sheets.specs.Cursors.{entry_at, at_next}
use Rattle.book_sheets.proofs.next.Goals as goal

pub overflow_mul-result : goal.overflow_mul-result
overflow_mul-result c =
    let counted : c.u16_at.result ≡ count (entry_at c.args.book.now c.args.cursor) =
    c.u16_at.ensures ∙ sym (number_piece 4 2 24 c.args.cursor.from c.args.book.now (omega arith)) in
    let fits : c.args.cursor.at + 16 * c.u16_at.result ≤ length c.args.book.now =
    rw counted (at_next c.requires.0 c.requires.1 refl).body_fits in
    omega (arith, fits)

pub overflow_add-result-2 : goal.overflow_add-result-2
overflow_add-result-2 c =
    let counted : c.u16_at.result ≡ count (entry_at c.args.book.now c.args.cursor) =
    c.u16_at.ensures ∙ sym (number_piece 4 2 24 c.args.cursor.from c.args.book.now (omega arith)) in
    let fits : c.args.cursor.at + 16 * c.u16_at.result ≤ length c.args.book.now =
    rw counted (at_next c.requires.0 c.requires.1 refl).body_fits in
    omega (arith, fits)

pub returns : goal.returns
returns c =
    let counted : c.u16_at.result ≡ count (entry_at c.args.book.now c.args.cursor) =
    c.u16_at.ensures ∙ sym (number_piece 4 2 24 c.args.cursor.from c.args.book.now (omega arith)) in
    at_next c.requires.0 c.requires.1 (rw counted)
