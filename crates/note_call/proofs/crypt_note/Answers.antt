-- `note_call::crypt_note` meets its contract: checks 3, 4 and 12 one by one, and then the note.
use Rattle.std.proofs.Common.{rules}
use mathlib.Core.Path.{◌≡◌, ◌∙◌}
use borrow.Author.Tests.{eq-eqb, ne_eqb, le-leb, lt-leb}
use Rattle.clefia_spec.specs.Words.{bytes_of, Below}
use Rattle.clefia_laws.specs.DigitLaws.{below_all}
use Rattle.clefia_laws.specs.BlockLaws.{words_block}
use Rattle.planbook_spec.specs.OutcomeLaws.{none, judged_pass, judged_true, judged_false}
use Rattle.planbook_spec.specs.Checks.{block_check, output_check}
use Rattle.planbook_spec.specs.Note.{note_check, note_checks, crypt_note_by}
use Rattle.call_answer.specs.Judging.{answered_refused, answered_accepted}
use Rattle.note_call.proofs.crypt_note.Goals as goal

pub returns-then-counter-ne16 : goal.returns-then-counter-ne16
unfolding crypt_note_by note_checks block_check
returns-then-counter-ne16 g c = answered_refused _ (judged_false (ne_eqb _ _ c.if-counter-ne16.true) 3 _ _)

pub returns-then-out-note : goal.returns-then-out-note
unfolding crypt_note_by note_checks block_check output_check
returns-then-out-note g c = answered_refused _ (judged_true (eq-eqb _ _ c.if-counter-ne16.false) 3 _ _
    ∙ judged_false (ne_eqb _ _ c.if-out-note.true) 4 _ _)

pub returns-then-note-gt16384 : goal.returns-then-note-gt16384
unfolding crypt_note_by note_checks block_check output_check note_check
returns-then-note-gt16384 g c =
    answered_refused _
    (judged_true (eq-eqb _ _ c.if-counter-ne16.false) 3 _ _
    ∙ judged_true (eq-eqb _ _ c.if-out-note.false) 4 _ _ ∙ judged_false (lt-leb _ _ c.if-note-gt16384.true) 12 _ _)

pub returns : goal.returns
unfolding crypt_note_by note_checks block_check output_check note_check
returns g c =
    let bytes : Below 256 c.args.counter.now =
    below_all c.args.counter.now
    (λ j h. search rules) in
    let e : bytes_of c.load.result ≡ c.args.counter.now =
    rw c.load.ensures
    (words_block (record { size = c.if-counter-ne16.false; below = bytes })) in
    answered_accepted _ _
    (judged_true (eq-eqb _ _ c.if-counter-ne16.false) 3 _ _
    ∙ judged_true (eq-eqb _ _ c.if-out-note.false) 4 _ _ ∙ judged_true (le-leb _ _ c.if-note-gt16384.false) 12 _ _
    ∙ judged_pass none _)
    (rw e at c.write_note.ensures)
