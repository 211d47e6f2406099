use Rattle.cipher_ffunction.proofs.matrix_row.Goals as goal

pub returns : goal.returns
returns c = cc
