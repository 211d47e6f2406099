-- `note_call::write_four` meets its contract: one block after the other.
use Rattle.std.proofs.Common.{rules}
use Prim.Native.Nat.{◌+◌, ◌*◌, ◌^◌}
use mathlib.Core.Path.{◌≡◌, ap}
use native.Mathlib.Omega.{arith}
use Rattle.clefia_spec.specs.Words.{Below}
use Rattle.clefia_laws.specs.DigitLaws.{below_all}
use Rattle.clefia_laws.specs.SizedLaws.{Words}
use Rattle.cipher_network4_four_way.specs.declared.FourStates.{FourStates}
use Rattle.note_call.specs.NoteFilled.{note_filled_block}
use Rattle.note_call.proofs.write_four.Goals as goal

pub returns : goal.returns
returns g c f =
    let i = c.args.i in
    let words : Below (2 ^ 32) c.args.cipher.expanded.now = below_all _ c.args.cipher.are_words in
    let state : Words 4 c.args.counter =
    record { size = search rules; below = below_all _ (λ j h. search rules) } in
    let bytes : Below 256 c.args.note.now = below_all _ (λ j h. search rules) in
    let p : 16 * i + 64 ≡ 16 * i + 16 + 16 + 16 + 16 = omega arith in
    rw p
    (note_filled_block words state bytes (16 * i + 16 + 16 + 16) (i + 3) (omega arith) (omega arith)
    (ap (λ (x : FourStates). x.d) c.encrypt_four-s.ensures) c.add_block-4.ensures
    (note_filled_block words state bytes (16 * i + 16 + 16) (i + 2) (omega arith) (omega arith)
    (ap (λ (x : FourStates). x.c) c.encrypt_four-s.ensures)
    c.add_block-3.ensures
    (note_filled_block words state bytes (16 * i + 16) (i + 1) (omega arith) (omega arith)
    (ap (λ (x : FourStates). x.b) c.encrypt_four-s.ensures)
    c.add_block-2.ensures
    (note_filled_block words state bytes (16 * i) i (omega arith) (omega arith)
    (ap (λ (x : FourStates). x.a) c.encrypt_four-s.ensures)
    c.add_block.ensures f))))
