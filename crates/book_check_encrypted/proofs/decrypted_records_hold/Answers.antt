use borrow.Author.Rules.{rules}
use borrow.Author.Tests.{tests}
use Rattle.std.proofs.Common.{◌∙◌}
use Rattle.std.proofs.lemmas.Iterator.Consumers.{YieldsList-from_first}
use Rattle.std.proofs.lemmas.Iterator.Search.{all_from_yields_List}
use Rattle.clefia_spec.specs.Block.{decrypt_under}
use Rattle.planbook_spec.specs.Book.{decrypt_body, contents, bodies}
use Rattle.planbook_spec.specs.BookSheets.{sheets_of}
use Rattle.book_sheets.specs.Left.{sheets_left, whole_sheet}
use Rattle.book_sheets.specs.Tested.{sheet_tested, all_tested}
use Rattle.book_check_encrypted.proofs.decrypted_records_hold.Goals as goal

pub returns : goal.returns
returns g c =
    let clear = decrypt_body (decrypt_under c.args.cipher.expanded.now) in
    all_from_yields_List (sheet_tested clear) c.all.new.self _ c.all.result c.all.ensures.ran
    (YieldsList-from_first whole_sheet sheets_left (sheets_of c.args.book.now) c.new.ensures)
    (λ x b q k. search (rules, tests))
    ∙ all_tested clear (contents c.args.book.now) (bodies c.args.book.now)
