use Rattle.cipher_bytes.specs.ListLaws.{four_put}
use Rattle.cipher_bytes.proofs.put_four.Goals as goal

pub returns : goal.returns
returns c = rw c.copy_from_slice.ensures.after (four_put c.args.dst.now c.args.at c.args.s)
