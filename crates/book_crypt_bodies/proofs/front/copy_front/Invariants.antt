-- `book_crypt_bodies::front::copy_front` meets its contract: what is before `i` has been copied.
use Rattle.std.specs.Prelude.{◌≡◌, length, take}
use Rattle.book_crypt_bodies.proofs.front.copy_front.Given as goal

abbrev pub invariant-loop-i : goal.invariant-loop-i
invariant-loop-i l = (length l.out ≡ length l.initial.out) × (take l.i l.out ≡ take l.i l.book)
