use mathlib.Core.Path.{◌∙◌}
use borrow.Author.Rules.{rules}
use Rattle.clefia_spec.specs.KeySchedule.{expand_long}
use Rattle.cipher_bytes.specs.ListLaws.{take_put_four}
use Rattle.cipher_round_keys.specs.Steps.{turns}
use Rattle.cipher_key_schedule.proofs.expand_long.Goals as goal

pub round_keys-requires : goal.round_keys-requires
round_keys-requires g c = record {
  period = turns;
  n_in_bounds = search rules;
  expanded_len = c.put_four.auto.dst ∙ c.requires.expanded_len;
}

pub returns : goal.returns
unfolding expand_long
returns g c =
    rw (
      c.round_keys.ensures,
      c.put_four.ensures,
      take_put_four c.args.expanded.now 0 c.xors4.result (search rules) (search rules),
      c.xors4.ensures,
      c.second_half.ensures,
      c.first_half.ensures,
      c.network-l.ensures,
      c.joined.ensures,
    )
