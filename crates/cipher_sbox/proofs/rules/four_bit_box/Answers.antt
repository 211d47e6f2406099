use mathlib.Core.Path.{refl}
use Rattle.clefia_spec.specs.Sbox.{ss0, ss1, ss2, ss3}
use Rattle.cipher_sbox.specs.Rules.{four_bit_boxes, four_bits}
use Rattle.cipher_sbox.proofs.rules.four_bit_box.Goals as goal

pub returns : goal.returns
unfolding four_bit_boxes ss0 ss1 ss2 ss3
returns c = record { right = refl; small = four_bits c.args.i c.args.x }
