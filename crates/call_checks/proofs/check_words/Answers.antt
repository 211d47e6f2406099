use Rattle.std.proofs.Common.{true, false, refl, arith}
use Rattle.std.proofs.lemmas.Grind.{common_steps}
use Rattle.planbook_spec.specs.Checks.{words_check}
use Rattle.call_checks.specs.CheckTests.{check_fails, check_passes}
use Rattle.call_checks.proofs.check_words.Goals as goal

pub returns-in-160 : goal.returns-in-160
unfolding words_check
returns-in-160 c = check_passes {r = true} (grind (arith, common_steps)) refl 14 _

pub returns-in_default : goal.returns-in_default
unfolding words_check
returns-in_default c = check_fails {r = false} (grind (arith, common_steps)) refl 14 _
