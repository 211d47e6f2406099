use mathlib.Core.Path.{◌≡◌, ◌∙◌}
use Rattle.cipher_sbox.specs.Rules.{power14, inverse_by_subfield, inverse_subfield}
use borrow.Author.Rules.{rules}
use Rattle.cipher_sbox.proofs.rules.inverse.Goals as goal

pub returns : goal.returns
unfolding inverse_by_subfield power14
returns c =
    let x = c.args.x in
    let e : c.product.result ≡ inverse_by_subfield x = cc in
    e ∙ inverse_subfield x (search rules)
