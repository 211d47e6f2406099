use Rattle.cipher_ffunction.specs.Tables.{mix_f1}
use Rattle.cipher_ffunction.proofs.ByteByByteFFunctions.f1.Goals as goal

pub returns : goal.returns
returns g c = rw (c.mix.ensures, mix_f1)
