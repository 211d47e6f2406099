use native.Mathlib.Nat.{div-one}
use Rattle.clefia_spec.specs.Words.{to_digits}
use Rattle.cipher_bytes.specs.ListLaws.{four_put}
use Rattle.cipher_bytes.proofs.put_word.Goals as goal

pub returns : goal.returns
unfolding to_digits
returns c = rw (c.copy_from_slice.ensures.after, c.to_be_bytes.ensures, div-one) (four_put c.args.dst.now c.args.at _)
