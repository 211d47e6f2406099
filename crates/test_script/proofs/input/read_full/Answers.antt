-- What a read put after the bytes so far is what the input gave after those.
use Rattle.std.proofs.Common.{sym, subst, rules}
use Rattle.std.proofs.KnownBytes.{Consumes-trans}
use Rattle.std.specs.Io.KnownBytes.{Consumes}
use Rattle.test_script.proofs.Reading.{take-put_mid_add}
use Rattle.test_script.proofs.input.read_full.Goals as goal

pub loop-done-preserved : goal.loop-done-preserved
loop-done-preserved g c =
    let so_far = c.loop-done in
    let read = c.in-Ok.ensures in
    let joined = take-put_mid_add so_far.done _ c.in-Ok.n so_far.space c.read.new.buf so_far.invariant.0 read.bound.0 in
    let bytes = Consumes-trans _ _ _ _ _ so_far.invariant.1 read.bytes.0 in
    (search rules, subst (Consumes _ _) (sym joined) bytes)
