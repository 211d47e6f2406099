use Rattle.cipher_ffunction.specs.Tables.{mix_f1}
use Rattle.cipher_word_tables.proofs.ByWordTablesFFunctions.f1.Goals as goal

pub returns : goal.returns
returns c = rw (c.by_word_tables.ensures, mix_f1)
