use mathlib.Core.Path.{◌∙◌}
use Rattle.book_call.specs.BookCallLaws.{map_bodies_whole}
use Rattle.book_call.proofs.write_book.Goals as goal

pub returns : goal.returns
returns g c =
    c.crypt_bodies.ensures ∙ map_bodies_whole _ _ c.requires.0
    (rw c.kind.ensures at c.copy_front.ensures)
