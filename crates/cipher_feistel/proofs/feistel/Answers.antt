use Rattle.std.proofs.Common.{refl, length-set, rules}
use Rattle.clefia_spec.specs.FFunction.{f0, f1}
use Rattle.cipher_feistel.specs.FeistelLaws.{even_pair, odd_pair, turned, whole}
use Rattle.cipher_feistel.proofs.feistel.Goals as goal
use Rattle.cipher_feistel.proofs.feistel.Goals.{then-i-eq0, else-i-eq0}

pub loop-i-preserved : goal.loop-i-preserved
loop-i-preserved g c =
    let h = c.loop-i in
    let a = c.args in
    let p = turned a.expanded.now a.at a.s h.i h.t c.if-i-eq0.t (search rules) h.invariant.0 h.invariant.1 h.invariant.2
    (elim c.if-i-eq0.branch [
      | then-i-eq0 w ↦ rw (w.t-is, w.f0.ensures, even_pair f0 f1 h.i w.if-i-eq0.true) refl
      | else-i-eq0 w ↦ rw (w.t-is, w.f1.ensures, odd_pair f0 f1 h.i (search rules)) refl
    ]) in
    (simp length-set h.invariant.0, p.0, p.1)

pub returns : goal.returns
returns g c =
    let h = c.loop-i in
    let a = c.args in
    whole a.expanded.now a.at a.s h.i h.t (search rules) h.invariant.0 h.invariant.1 h.invariant.2
