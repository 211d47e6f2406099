use Rattle.std.proofs.Common.{List, ℕ, ap, ◌∙◌, arith}
use Rattle.std.proofs.Math.Seq.{take_all}
use Rattle.clefia_spec.specs.Words.{bytes_of}
use Rattle.clefia_laws.specs.BlockLaws.{block_at}
use Rattle.clefia_laws.specs.DigitLaws.{below_all}
use Rattle.planbook_spec.specs.Book.{record_holds}
use Rattle.book_entries.proofs.record.bytes_hold.Goals as goal

pub returns : goal.returns
returns c e h =
    c.record_holds.ensures e h
    ∙ ap (λ (l : List ℕ). record_holds e (bytes_of l)) c.load.ensures
    ∙ ap (record_holds e)
    (block_at c.args.bytes.now (below_all c.args.bytes.now (λ k h. (c.type_inv.bytes k).fits)) (omega arith)
    ∙ take_all 16 c.args.bytes.now (omega arith))
