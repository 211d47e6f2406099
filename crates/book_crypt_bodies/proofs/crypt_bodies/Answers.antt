use Rattle.std.proofs.Common.{◌≡◌, refl, sym, ap, ◌∙◌, length, arith}
use Rattle.planbook_laws.specs.Parts.{part_length}
use Rattle.book_chain.specs.Crypt.{crypted_body}
use Rattle.book_crypt_bodies.specs.BodiesLaws.{bodies_filled_first, part_fits, bodies_filled_next}
use Rattle.book_crypt_bodies.specs.BodiesLaws.{bodies_filled_end}
use Rattle.book_crypt_bodies.proofs.crypt_bodies.Goals as goal

pub loop-sheet-init : goal.loop-sheet-init
loop-sheet-init g c =
    rw (c.into_iter-sheet-iterator.ensures.into_iter_gives, c.u16_at.ensures)
    (bodies_filled_first (crypted_body c.args.decrypting c.args.cipher.expanded.now) c.args.out.now c.requires.0
    c.requires.1 c.new-sheet-items.ensures)

pub slice_bounds-crypt_sheet-end : goal.slice_bounds-crypt_sheet-end
slice_bounds-crypt_sheet-end g c =
    let w = rw c.in-Some.ensures.steps at c.loop-sheet.invariant in
    omega (arith, part_fits (crypted_body c.args.decrypting c.args.cipher.expanded.now) c.args.out.now w)

pub crypt_sheet-requires : goal.crypt_sheet-requires
crypt_sheet-requires g c =
    let w = rw c.in-Some.ensures.steps at c.loop-sheet.invariant in
    let fits = part_fits (crypted_body c.args.decrypting c.args.cipher.expanded.now) c.args.out.now w in
    part_length _ c.loop-sheet.at c.loop-sheet.out refl fits ∙ c.in-Some.sheet.body_len

pub loop-sheet-preserved : goal.loop-sheet-preserved
loop-sheet-preserved g c =
    let f = crypted_body c.args.decrypting c.args.cipher.expanded.now in
    let w = rw c.in-Some.ensures.steps at c.loop-sheet.invariant in
    let size : length c.crypt_sheet.new.out ≡ length c.in-Some.sheet.body.now =
    c.crypt_sheet.auto.out ∙ part_length _ c.loop-sheet.at c.loop-sheet.out refl (part_fits f c.args.out.now w) in
    rw c.crypt_sheet.ensures (bodies_filled_next f c.args.out.now w (ap length (sym c.crypt_sheet.ensures) ∙ size))

pub returns : goal.returns
returns g c =
    let w = rw c.in-None.ensures.steps.0 at c.loop-sheet.invariant in
    bodies_filled_end (crypted_body c.args.decrypting c.args.cipher.expanded.now) c.args.out.now w
