use mathlib.Core.Path.{sym, ◌∙◌}
use borrow.Author.Rules.{rules}
use Rattle.cipher_sbox.specs.Rules.{add_columns_step, add_columns_end}
use Rattle.cipher_sbox.proofs.rules.linear.Goals as goal

pub loop-column-preserved : goal.loop-column-preserved
loop-column-preserved c =
    let h = c.loop-column in
    let columns = c.args.columns in
    rw c.last_bit_times-sum.ensures (sym (add_columns_step columns h.column-index h.sum h.bits (search rules))
    ∙ h.invariant)

pub returns : goal.returns
returns c =
    let h = c.loop-column in
    let columns = c.args.columns in
    sym (add_columns_end columns h.column-index h.sum h.bits (search rules)) ∙ h.invariant
