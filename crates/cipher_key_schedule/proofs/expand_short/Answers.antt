use mathlib.Core.Path.{◌∙◌}
use borrow.Author.Rules.{rules}
use Rattle.clefia_spec.specs.KeySchedule.{expand_short}
use Rattle.cipher_bytes.specs.ListLaws.{take_put_four}
use Rattle.cipher_round_keys.specs.Steps.{always}
use Rattle.cipher_key_schedule.proofs.expand_short.Goals as goal

pub round_keys-requires : goal.round_keys-requires
round_keys-requires g c = record {
  period = always;
  n_in_bounds = search rules;
  expanded_len = c.put_four.auto.dst ∙ c.requires.expanded_len;
}

pub returns : goal.returns
unfolding expand_short
returns g c =
    rw (
      c.round_keys.ensures,
      c.put_four.ensures,
      take_put_four c.args.expanded.now 0 c.args.k (search rules) (search rules),
      c.network-l.ensures,
      c.sixteen-con.ensures,
    )
