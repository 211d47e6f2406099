-- `call_expand_key::write_expanded` meets its contract: the words are those of the key.
use mathlib.Core.Path.{◌∙◌}
use Rattle.call_expand_key.specs.ExpandLaws.{answered_expanded}
use Rattle.call_expand_key.proofs.write_expanded.Goals as goal

pub returns : goal.returns
returns g c =
    answered_expanded _ _ c.expand_key.ensures (c.expand_key.auto.expanded ∙ c.requires.expanded_len)
    c.write_words.ensures
