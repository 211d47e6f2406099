use Rattle.std.specs.Prelude.{◌≡◌, length}
use Rattle.std.proofs.Common.{rules}
use Rattle.cipher_key_schedule.specs.Keys.{else_32, expand_16, expand_24, expand_32}
use Rattle.cipher_key_schedule.proofs.expand_key.Goals as goal

pub returns-in-16 : goal.returns-in-16
returns-in-16 g c = rw (c.expand_short.ensures, c.load-k.ensures) (expand_16 c.args.key.now c.in-16.is)

pub returns-in-24 : goal.returns-in-24
returns-in-24 g c =
    rw (c.expand_long.ensures, c.extend_key.ensures, c.twenty_four.ensures, c.load-k.ensures)
    (expand_24 c.args.key.now c.in-24.is)

pub returns-in_default : goal.returns-in_default
returns-in_default g c =
    let e : length c.args.key.now ≡ 32 = else_32 c.requires.key_length (search rules) (search rules) in
    rw (c.expand_long-in_default.ensures, c.load.ensures, c.thirty_two.ensures, c.load-k.ensures)
    (expand_32 c.args.key.now e)
