use lib.Bits.{xor_lt}
use Rattle.clefia_spec.specs.Sbox.{s0}
use Rattle.cipher_sbox.specs.Rules.{four_bit_boxes}
use borrow.Author.Rules.{rules}
use Rattle.cipher_sbox.proofs.rules.s0.Goals as goal

pub four_bit_box-requires : goal.four_bit_box-requires
four_bit_box-requires c =
    let t = c.four_bit_box-t0 in
    let d = c.double_four_bits in
    (search rules, xor_lt 4 t.result d.result t.ensures.small d.ensures.small)

pub four_bit_box-requires-2 : goal.four_bit_box-requires-2
four_bit_box-requires-2 c =
    let t = c.four_bit_box-t1 in
    let d = c.double_four_bits-2 in
    (search rules, xor_lt 4 d.result t.result d.ensures.small t.ensures.small)

pub returns : goal.returns
unfolding four_bit_boxes s0
returns c =
    rw (
      c.four_bit_box.ensures.right,
      c.four_bit_box-2.ensures.right,
      c.double_four_bits-2.ensures.right,
      c.double_four_bits.ensures.right,
      c.four_bit_box-t1.ensures.right,
      c.four_bit_box-t0.ensures.right,
    )
