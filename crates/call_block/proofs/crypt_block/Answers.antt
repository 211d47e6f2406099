-- `call_block::crypt_block` meets its contract: checks 3 and 4 peeled off, and then the block.
use mathlib.Core.Path.{◌∙◌}
use borrow.Author.Tests.{eq-eqb, ne_eqb}
use Rattle.planbook_spec.specs.OutcomeLaws.{none, judged_pass, judged_true, judged_false}
use Rattle.planbook_spec.specs.Checks.{block_check, output_check, block_checks}
use Rattle.call_block.specs.BlockUnder.{block_under, block_decrypted, block_encrypted}
use Rattle.call_answer.specs.Judging.{answered_refused, answered_accepted}
use Rattle.call_block.proofs.crypt_block.Goals as goal

pub returns-then-block-ne16 : goal.returns-then-block-ne16
unfolding block_under block_checks block_check
returns-then-block-ne16 g c = answered_refused _ (judged_false (ne_eqb _ _ c.if-block-ne16.true) 3 _ _)

pub returns-then-out-ne16 : goal.returns-then-out-ne16
unfolding block_under block_checks block_check output_check
returns-then-out-ne16 g c = answered_refused _ (judged_true (eq-eqb _ _ c.if-block-ne16.false) 3 _ _
    ∙ judged_false (ne_eqb _ _ c.if-out-ne16.true) 4 _ _)

pub returns-then-decrypting : goal.returns-then-decrypting
unfolding block_under block_checks block_check output_check
returns-then-decrypting g c =
    answered_accepted _ _
    (judged_true (eq-eqb _ _ c.if-block-ne16.false) 3 _ _
    ∙ judged_true (eq-eqb _ _ c.if-out-ne16.false) 4 _ _ ∙ judged_pass none _)
    (block_decrypted _ _ c.if-decrypting.true c.decrypt_block.ensures)

pub returns : goal.returns
unfolding block_under block_checks block_check output_check
returns g c =
    answered_accepted _ _
    (judged_true (eq-eqb _ _ c.if-block-ne16.false) 3 _ _
    ∙ judged_true (eq-eqb _ _ c.if-out-ne16.false) 4 _ _ ∙ judged_pass none _)
    (block_encrypted _ _ c.if-decrypting.false c.encrypt_block.ensures)
