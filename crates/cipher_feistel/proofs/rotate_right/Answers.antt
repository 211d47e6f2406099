use Rattle.std.specs.Prelude.{◌+◌, ◌-◌, ◌%◌, ◌<◌, ◌≡◌, length, get_or}
use Rattle.std.proofs.Common.{sym, ◌∙◌, arith, rules, length-set, take_all}
use Rattle.clefia_spec.specs.Network.{rotate_right}
use Rattle.clefia_laws.specs.NetworkLaws.{length_rotate}
use Rattle.cipher_bytes.specs.ListLaws.{fill_one}
use Rattle.cipher_feistel.specs.FeistelLaws.{rotated_right_at}
use Rattle.cipher_feistel.proofs.rotate_right.Goals as goal

pub loop-i-preserved : goal.loop-i-preserved
loop-i-preserved g c =
    let s = c.args.s in
    let i = c.loop-i.i in
    let l : length s ≡ g.row.N = search rules in
    let h : i < length s = omega arith in
    let v : get_or s ((i + g.row.N - 1) % g.row.N) 0 ≡ get_or (rotate_right s) i 0 =
    rw (← l) (sym (rotated_right_at s i h)) in (
      simp length-set c.loop-i.invariant.0,
      rw v (fill_one i c.loop-i.t (rotate_right s) (omega (arith, c.loop-i.invariant.0))
          (omega (arith, length_rotate (length s - 1) s)) c.loop-i.invariant.1),
    )

pub returns : goal.returns
returns g c =
    let s = c.args.s in
    let i = c.loop-i.i in
    let l : length s ≡ g.row.N = search rules in
    sym (take_all i c.loop-i.t (omega (arith, c.loop-i.invariant.0))) ∙ c.loop-i.invariant.1
    ∙ take_all i (rotate_right s) (omega (arith, length_rotate (length s - 1) s))
