use Rattle.std.proofs.Common.{ℕ, ◌<◌, ◌≤◌, List, length, sym, ◌∙◌, arith, take_all}
use Rattle.clefia_spec.specs.Words.{xors}
use Rattle.clefia_laws.specs.DigitLaws.{length_xors, get_d_xors}
use Rattle.cipher_bytes.specs.ListLaws.{fill_one}
use Rattle.note_blocks.proofs.add_part.Goals as goal

pub loop-i-preserved : goal.loop-i-preserved
loop-i-preserved c =
    let bytes : List ℕ = c.store.new.dst in
    let part : List ℕ = c.args.part.now in
    let h : c.loop-i.i < length part = omega arith in
    let k : c.loop-i.i < length bytes = omega arith in
    rw (← get_d_xors bytes part c.loop-i.i k h)
    (fill_one c.loop-i.i c.loop-i.out (xors bytes part) (omega arith) (omega (arith, length_xors bytes part))
    c.loop-i.invariant)

pub returns : goal.returns
returns c =
    let bytes : List ℕ = c.store.new.dst in
    let part : List ℕ = c.args.part.now in
    let h : length part ≤ c.loop-i.i = omega arith in
    rw (← c.store.ensures)
    (sym (take_all c.loop-i.i c.loop-i.out (omega arith)) ∙ c.loop-i.invariant
    ∙ take_all c.loop-i.i (xors bytes part) (omega (arith, length_xors bytes part)))
