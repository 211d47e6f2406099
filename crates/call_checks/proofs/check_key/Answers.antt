use Rattle.std.proofs.Common.{Ok, true, false, refl, ap, ◌∙◌, arith}
use Rattle.std.proofs.lemmas.Grind.{common_steps}
use Rattle.planbook_spec.specs.Checks.{key_check}
use Rattle.call_checks.specs.CheckTests.{check_fails, check_passes, expanded_size}
use Rattle.call_checks.proofs.check_key.Goals as goal

pub returns-in-16 : goal.returns-in-16
unfolding key_check
returns-in-16 c =
    ap Ok (expanded_size _ (grind (arith, common_steps)))
    ∙ check_passes {r = true} (grind (arith, common_steps)) refl 1 _

pub returns-in_default : goal.returns-in_default
unfolding key_check
returns-in_default c = check_fails {r = false} (grind (arith, common_steps)) refl 1 _
