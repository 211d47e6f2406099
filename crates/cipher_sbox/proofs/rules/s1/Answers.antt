use Rattle.clefia_spec.specs.Sbox.{s1}
use Rattle.cipher_sbox.specs.Rules.{f_by_columns, g_by_columns, f_columns, g_columns}
use borrow.Author.Rules.{rules}
use Rattle.cipher_sbox.proofs.rules.s1.Goals as goal

pub returns : goal.returns
unfolding f_by_columns g_by_columns s1
returns c =
    let x = c.args.x in
    let y = c.inverse.result in
    cc (f_columns x (search rules), g_columns y (search rules))
