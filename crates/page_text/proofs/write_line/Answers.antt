-- `page_text::write_line` meets its contract: one field after the other.
use mathlib.Core.Path.{◌≡◌, ◌∙◌}
use lib.ListN.{length}
use Rattle.planbook_spec.specs.Book.{number}
use Rattle.planbook_spec.specs.Page.{line}
use Rattle.page_text.specs.Digits.{line_put}
use Rattle.page_text.proofs.write_line.Goals as goal

pub returns : goal.returns
unfolding line number
returns c =
    let size : length c.put_field-5.new.out ≡ 32 =
    c.put_field-5.auto.out ∙ c.put_field-4.auto.out ∙ c.put_field-3.auto.out ∙ c.put_field-2.auto.out
    ∙ c.put_field.auto.out ∙ c.requires.1 in
    rw (
      c.word.ensures,
      c.word-2.ensures,
      c.from.ensures,
      c.u16_at.ensures,
      c.u16_at-2.ensures,
    ) at
    (line_put c.word.result c.word-2.result c.from.result
    c.u16_at.result c.u16_at-2.result
    c.put_field.new.out c.put_field-2.new.out c.put_field-3.new.out c.put_field-4.new.out
    c.put_field-5.new.out
    c.put_field.ensures c.put_field-2.ensures c.put_field-3.ensures c.put_field-4.ensures
    c.put_field-5.ensures size)
