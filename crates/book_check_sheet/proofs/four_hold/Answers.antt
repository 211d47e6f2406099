-- `book_check_sheet::four_hold` meets its contract: one record after the other.
use Rattle.std.proofs.Common.{rules}
use Prim.Native.Nat.{◌+◌, ◌-◌, ◌^◌}
use mathlib.Core.Path.{◌≡◌, refl, ap}
use native.Mathlib.Omega.{arith}
use Rattle.clefia_spec.specs.Words.{Below}
use Rattle.clefia_laws.specs.DigitLaws.{below_all}
use Rattle.cipher_network4_four_way.specs.declared.FourStates.{FourStates}
use Rattle.book_check_sheet.specs.Looked.{record_turn}
use Rattle.book_check_sheet.proofs.four_hold.Goals as goal

pub returns : goal.returns
returns g c e left known size o h =
    let at = c.args.at in
    let words : Below (2 ^ 32) c.args.cipher.expanded.now =
    below_all c.args.cipher.expanded.now c.args.cipher.are_words in
    let bytes : Below 256 c.args.body.now =
    below_all c.args.body.now
    (λ j k. search rules) in
    let p : at + 64 ≡ at + 16 + 16 + 16 + 16 = omega arith in
    let q : at + 48 ≡ at + 16 + 16 + 16 = omega arith in
    let n : left - 4 ≡ left - 1 - 1 - 1 - 1 = omega arith in
    rw (p, q, n)
    (record_turn words bytes size
    (record_turn words bytes size
    (record_turn words bytes size
    (record_turn words bytes size o (omega arith) (ap (λ (x : FourStates). x.a) c.decrypt_four-t.ensures) refl
    (c.clear_holds-p.ensures e known))
    (omega arith) (ap (λ (x : FourStates). x.b) c.decrypt_four-t.ensures)
    c.load.ensures
    (c.clear_holds-q.ensures e known))
    (omega arith) (ap (λ (x : FourStates). x.c) c.decrypt_four-t.ensures) c.load-2.ensures
    (c.clear_holds-r.ensures e known))
    (omega arith) (ap (λ (x : FourStates). x.d) c.decrypt_four-t.ensures) c.load-3.ensures
    (c.clear_holds-s.ensures e known))
