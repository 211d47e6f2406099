use Prim.Native.Nat.{◌+◌, ◌-◌}
use mathlib.Core.Path.{◌≡◌, refl}
use borrow.Author.Rules.{rules}
use lib.ListN.{length, take, drop}
use Rattle.planbook_spec.specs.Page.{number_field}
use Rattle.planbook_laws.specs.Parts.{part_length}
use Rattle.page_text.specs.Digits.{field_put}
use Rattle.page_text.proofs.put_field.Goals as goal

pub returns : goal.returns
returns c =
    let size : length (take (c.args.at + c.args.width - c.args.at) (drop c.args.at c.args.out.now))
    ≡ c.args.width =
    part_length c.args.width c.args.at c.args.out.now refl (search rules) in
    let p : c.write_number.new.out ≡ number_field c.args.width c.args.n =
    rw size at c.write_number.ensures in
    rw p (field_put c.args.at c.args.width c.args.n c.args.after c.args.out.now c.requires.1)
