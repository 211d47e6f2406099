use mir.Syntax.{w32}
use Prim.Native.Nat.{ℕ, ◌^◌, ◌<◌}
use mathlib.Core.Path.{ap}
use lib.ListN.{get_or}
use Rattle.book_entries.specs.declared.entry.Sheet.{Sheet}
use Rattle.book_entries.specs.RecordWords.{record_state}
use borrow.Author.Rules.{rules, elem_Fits}
use Rattle.book_entries.proofs.record.record_holds.Goals as goal

pub returns : goal.returns
returns c =
    let fits : (i : ℕ) → get_or c.args.r i 0 < 2 ^ 32 =
    λ i. (elem_Fits w32 w32 c.args.r _ i c.well_formed.1.0.1.1 tt).fits in
    λ e h. rw c.plot_holds.ensures (record_state e c.args.r (search rules) fits
    (ap (λ (s : Sheet). s.trial) h) (ap (λ (s : Sheet). s.replicates) h))
