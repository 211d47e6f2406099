use Rattle.cipher_ffunction.specs.Tables.{mix_f0}
use Rattle.cipher_word_tables.proofs.ByWordTablesFFunctions.f0.Goals as goal

pub returns : goal.returns
returns c = rw (c.by_word_tables.ensures, mix_f0)
