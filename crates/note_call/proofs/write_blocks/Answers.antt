use Prim.Native.Nat.{◌+◌, ◌*◌}
use mathlib.Core.Path.{◌≡◌, refl}
use native.Mathlib.Omega.{arith}
use borrow.Author.Rules.{rules}
use Rattle.clefia_laws.specs.DigitLaws.{below_all}
use Rattle.note_call.specs.NoteFilled.{note_filled_block}
use Rattle.note_call.proofs.write_blocks.Goals as goal

pub loop-i-preserved : goal.loop-i-preserved
loop-i-preserved g c =
    let next : 16 * (c.loop-i.i + 1) ≡ 16 * c.loop-i.i + 16 = omega arith in
    rw next
    (note_filled_block (below_all _ c.args.cipher.are_words) (record {
      size = search rules;
      below = below_all _ (λ j h. search rules);
    })
    (below_all _ (λ j h. search rules)) (16 * c.loop-i.i) c.loop-i.i refl (omega arith)
    (rw (c.encrypt_words-s.ensures, c.counter_state.ensures)) c.add_block.ensures c.loop-i.invariant)
