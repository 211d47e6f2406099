-- `cipher_word_tables::by_word_tables` meets its contract: F0 and F1 by columns, added to a word.
use Rattle.std.proofs.Common.{rules}
use Rattle.cipher_ffunction.specs.ColumnLaws.{columns_added}
use Rattle.cipher_word_tables.proofs.by_word_tables.Goals as goal

pub returns : goal.returns
returns c =
    cc (columns_added c.args.f c.args.z c.args.y (search rules))
