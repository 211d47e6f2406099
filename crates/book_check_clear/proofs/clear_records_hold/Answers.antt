use borrow.Author.Rules.{rules}
use borrow.Author.Tests.{tests}
use Rattle.std.proofs.Common.{◌∙◌}
use Rattle.std.proofs.lemmas.Iterator.Consumers.{YieldsList-from_first}
use Rattle.std.proofs.lemmas.Iterator.Search.{all_from_yields_List}
use Rattle.planbook_spec.specs.Book.{as_it_is, contents, bodies}
use Rattle.planbook_spec.specs.BookSheets.{sheets_of}
use Rattle.book_sheets.specs.Left.{sheets_left, whole_sheet}
use Rattle.book_sheets.specs.Tested.{sheet_tested, all_tested}
use Rattle.book_check_clear.proofs.clear_records_hold.Goals as goal

pub returns : goal.returns
returns c =
    all_from_yields_List (sheet_tested as_it_is) c.all.new.self _ c.all.result c.all.ensures.ran
    (YieldsList-from_first whole_sheet sheets_left (sheets_of c.args.book.now) c.new.ensures)
    (λ x b q k. search (rules, tests))
    ∙ all_tested as_it_is (contents c.args.book.now) (bodies c.args.book.now)
