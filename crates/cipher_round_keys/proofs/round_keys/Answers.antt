use Prim.Native.Nat.{◌+◌, ◌*◌, ◌≤◌}
use mathlib.Core.Bool.{true, false}
use mathlib.Core.Path.{sym, ◌∙◌}
use native.Mathlib.Omega.{arith}
use Rattle.clefia_laws.specs.KeyLaws.{length_double_swap}
use Rattle.cipher_bytes.specs.ListLaws.{fill_end}
use Rattle.cipher_round_keys.specs.Steps.{fill, none_left}
use Rattle.cipher_round_keys.proofs.round_keys.Goals as goal
use Rattle.cipher_round_keys.proofs.round_keys.Goals.{then-uses_first, else-uses_first}

pub loop-i-preserved : goal.loop-i-preserved
loop-i-preserved c =
    let h = c.loop-i in
    elim c.if-uses_first.branch [
      | then-uses_first w ↦ (
        rw (w.a-is, w.step.ensures.l_after) (length_double_swap _),
        rw w.b-is h.invariant.1,
        rw (w.a-is, w.b-is, w.expanded-is, w.step.ensures.l_after, w.step.ensures.expanded_after)
            (fill c.args.period c.args.base c.args.con.now c.args.n h.i c.args.k c.args.k2 h.a h.b h.expanded _
            (omega arith) (omega arith) h.invariant.2 true h.invariant.0
            (sym c.uses_first.ensures ∙ w.if-uses_first.true)),
      )
      | else-uses_first w ↦ (
        rw w.a-is h.invariant.0,
        rw (w.b-is, w.step-else-uses_first.ensures.l_after) (length_double_swap _),
        rw (
          w.a-is,
          w.b-is,
          w.expanded-is,
          w.step-else-uses_first.ensures.l_after,
          w.step-else-uses_first.ensures.expanded_after,
        )
            (fill c.args.period c.args.base c.args.con.now c.args.n h.i c.args.k c.args.k2 h.a h.b h.expanded _
            (omega arith) (omega arith) h.invariant.2 false h.invariant.1
            (sym c.uses_first.ensures ∙ w.if-uses_first.false)),
      )
    ]

pub returns : goal.returns
returns c =
    let h : c.args.n ≤ c.loop-i.i = omega arith in
    fill_end c.loop-i.expanded (4 + 4 * c.loop-i.i) _ (omega arith) (rw none_left at c.loop-i.invariant.2)
