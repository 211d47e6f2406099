-- `cipher_gf256::double` meets its contract: both ways of doubling a byte are computed at each
-- byte.
use borrow.Author.Rules.{rules}
use Rattle.cipher_gf256.specs.ProductLaws.{double_byte_lem}
use Rattle.cipher_gf256.proofs.double.Goals as goal

pub returns : goal.returns
returns c = double_byte_lem c.args.x (search rules)
