-- `note_call::write_note` meets its contract: the whole blocks, and then the part that is left.
use Rattle.std.proofs.Common.{rules, length}
use mathlib.Core.Path.{◌≡◌, refl}
use native.Mathlib.Omega.{arith}
use Rattle.clefia_laws.specs.DigitLaws.{below_all}
use Rattle.note_call.specs.NoteFilled.{note_filled_size, note_filled_rest}
use Rattle.note_call.proofs.write_note.Goals as goal

pub returns : goal.returns
returns g c =
    let room : length c.write_blocks-count.new.out ≡ length c.args.note.now =
    note_filled_size c.args.cipher.expanded.now c.args.counter c.args.note.now c.write_blocks-count.ensures.2 in
    rw room
    (note_filled_rest (below_all _ c.args.cipher.are_words) (record {
      size = search rules;
      below = below_all _ (λ j h. search rules);
    }) (below_all _ (λ j h. search rules)) _ c.write_blocks-count.result refl
    (omega (arith, c.write_blocks-count.ensures.0, c.if-at-note.false))
    (omega (arith, c.write_blocks-count.ensures.1))
    (rw (c.encrypt_words-s.ensures, c.counter_state.ensures))
    c.add_part.ensures c.write_blocks-count.ensures.2)
