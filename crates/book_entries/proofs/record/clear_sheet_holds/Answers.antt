use borrow.Author.Rules.{rules}
use borrow.Author.Tests.{tests}
use Rattle.std.proofs.Common.{◌∙◌, arith, lit<}
use Rattle.std.proofs.lemmas.Iterator.Search.{all_from_yields_List}
use Rattle.planbook_spec.specs.Book.{count, pieces, record_holds}
use Rattle.book_entries.specs.Pieces.{yields_pieces, all_hold}
use Rattle.book_entries.proofs.record.clear_sheet_holds.Goals as goal

pub returns : goal.returns
returns c =
    let s = c.args.sheet in
    all_from_yields_List (record_holds s.entry.now) _ _ c.all.result c.all.ensures.ran
    (yields_pieces 16 (count s.entry.now) s.body.now (lit< tt) c.chunks_exact.ensures.size
    c.chunks_exact.ensures.rest (omega (arith, s.body_len))) (λ x b q k. search (rules, tests))
    ∙ all_hold s.entry.now (pieces 16 (count s.entry.now) s.body.now)
