use Rattle.std.proofs.Common.{◌≡◌, ℕ, ◌+◌, ◌*◌, ◌≤◌, length, refl, arith}
use lib.Seq.{drop-length}
use Rattle.clefia_spec.specs.Words.{to_digits, digits_of}
use Rattle.cipher_bytes.specs.ListLaws.{bytes_step, fill_four, fill_end}
use Rattle.cipher_bytes.proofs.store_all.Goals as goal

pub loop-i-preserved : goal.loop-i-preserved
unfolding to_digits
loop-i-preserved c =
    let i : ℕ = c.loop-i.i in
    let h : 4 * i + 4 ≤ length c.loop-i.dst = omega arith in
    let e : 4 * (i + 1) ≡ 4 * i + 4 = omega arith in
    rw (c.put_word.ensures, e)
    (fill_four c.loop-i.dst _ _ _ _ refl h (rw (bytes_step c.args.src.now i (omega arith)) at c.loop-i.invariant))

pub returns : goal.returns
unfolding digits_of
returns c =
    let e : c.loop-i.i ≡ length c.args.src.now = omega arith in
    fill_end c.loop-i.dst (4 * length c.args.src.now) _ (omega arith) (rw (e, drop-length) at c.loop-i.invariant)
