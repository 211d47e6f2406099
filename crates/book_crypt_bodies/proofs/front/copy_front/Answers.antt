use Rattle.std.specs.Prelude.{ℕ, ◌+◌, ◌*◌, ◌≡◌, List, set}
use Rattle.std.proofs.Common.{ap, ◌∙◌, length-set, rules, arith}
use Rattle.std.proofs.Math.Seq.{take-set-lt}
use Rattle.planbook_spec.specs.Book.{sheet_count}
use Rattle.cipher_bytes.specs.ListLaws.{fill_one}
use Rattle.book_crypt_bodies.proofs.front.copy_front.Goals as goal

pub loop-i-preserved : goal.loop-i-preserved
loop-i-preserved c = (
  simp length-set c.loop-i.invariant.0,
  fill_one c.loop-i.i c.loop-i.out c.args.book.now (search rules) (search rules) c.loop-i.invariant.1,
)

pub returns : goal.returns
returns c =
    let e : c.loop-i.i ≡ 4 + 24 * sheet_count c.args.book.now = search rules in
    take-set-lt (4 + 24 * sheet_count c.args.book.now) c.loop-i.out 0 c.args.kind (omega arith)
    ∙ ap (λ (l : List ℕ). set l 0 c.args.kind) (rw e at c.loop-i.invariant.1)
