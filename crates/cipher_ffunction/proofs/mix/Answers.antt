-- `cipher_ffunction::mix` meets its contract: M0 goes with F0, M1 with F1.
use native.Mathlib.Omega.{arith}
use mathlib.Core.Path.{◌≡◌}
use Rattle.clefia_spec.specs.FFunction.{m0, m1}
use Rattle.cipher_ffunction.specs.Tables.{matrix, mix}
use Rattle.cipher_ffunction.proofs.mix.Goals as goal

pub returns-then-f-eq0 : goal.returns-then-f-eq0
unfolding mix matrix m0
returns-then-f-eq0 g c =
    let e : c.args.f ≡ 0 = c.if-f-eq0.true in
    rw (e, c.matrix_times.ensures, c.substitute.ensures)

pub returns-else-f-eq0 : goal.returns-else-f-eq0
unfolding mix matrix m1
returns-else-f-eq0 g c =
    let e : c.args.f ≡ 1 = omega arith in
    rw (e, c.matrix_times-else-f-eq0.ensures, c.substitute-else-f-eq0.ensures)
