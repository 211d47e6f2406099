use Rattle.cipher_gf256.proofs.add_last_bit.Goals as goal

pub returns : goal.returns
returns c = rw c.last_bit_times.ensures
