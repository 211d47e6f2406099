use Rattle.std.proofs.Common.{◌∙◌, rules}
use Rattle.clefia_spec.specs.FFunction.{f0, f1}
use Rattle.cipher_feistel.specs.FeistelLaws.{by_two_keys}
use Rattle.cipher_feistel.proofs.feistel4.Goals as goal

pub returns : goal.returns
returns g c w i p q =
    c.feistel.ensures ∙ by_two_keys f0 f1 w i c.args.a c.args.b c.args.s (search rules) p q
