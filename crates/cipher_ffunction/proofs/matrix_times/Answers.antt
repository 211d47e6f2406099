use Rattle.clefia_spec.specs.FFunction.{matrix_entry, row_times, matrix_times}
use Rattle.cipher_ffunction.proofs.matrix_times.Goals as goal

pub returns : goal.returns
unfolding matrix_times row_times matrix_entry
returns c = cc
