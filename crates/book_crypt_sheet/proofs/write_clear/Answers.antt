-- `book_crypt_sheet::write_clear` meets its contract.
use Rattle.book_crypt_sheet.proofs.write_clear.Goals as goal

pub returns : goal.returns
returns c =
    record {
      read = c.exchange.ensures.read;
      written =
          rw (c.exchange.ensures.written, c.xors4.ensures);
    }
