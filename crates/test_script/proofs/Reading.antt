-- What a read puts into a part of a list, seen from the start of the list.
use Rattle.std.proofs.Common.{◌≡◌, ℕ, ◌+◌, ◌≤◌, ◌∙◌, List, ◌++◌, length, take, ap, sym}
use Rattle.std.proofs.lemmas.List.{length-take-le, take-append-le}
use Rattle.std.proofs.Math.Seq.{take-append-add}
use borrow.Rule.Slice.PartMut.{put_mid, post_of}

-- the first d elements, and then the first n of the new part that begins at d
pub take-put_mid_add : (d k n : ℕ) (xs ys : List ℕ) → d ≤ length xs → n ≤ length ys
    → take (d + n) (put_mid d k xs ys) ≡ take d xs ++ take n ys
take-put_mid_add d k n xs ys within fits =
    let whole = put_mid d k xs ys in
    ap (λ m. take (m + n) whole) (sym (length-take-le d xs within))
    ∙ take-append-add (take d xs) (ys ++ post_of d k xs) n
    ∙ ap (λ l. take d xs ++ l) (take-append-le n ys (post_of d k xs) fits)
