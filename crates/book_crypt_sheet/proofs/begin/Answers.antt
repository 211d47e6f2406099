use Rattle.clefia_laws.specs.DigitLaws.{below_all}
use Rattle.book_sheets.specs.Left.{whole_sheet}
use Rattle.book_crypt_sheet.specs.Continued.{continued_first}
use Rattle.book_crypt_sheet.proofs.begin.Goals as goal

pub returns : goal.returns
returns g c =
    continued_first c.args.decrypting c.args.cipher.expanded.now (whole_sheet c.args.sheet)
    (below_all c.args.sheet.entry.now c.args.sheet.entry_bytes) c.args.sheet.entry_len c.requires c.new.ensures
