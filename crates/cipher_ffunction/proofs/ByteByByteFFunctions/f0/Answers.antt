use Rattle.cipher_ffunction.specs.Tables.{mix_f0}
use Rattle.cipher_ffunction.proofs.ByteByByteFFunctions.f0.Goals as goal

pub returns : goal.returns
returns g c = rw (c.mix.ensures, mix_f0)
