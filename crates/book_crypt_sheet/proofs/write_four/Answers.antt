-- `book_crypt_sheet::write_four` meets its contract: one record after the other.
use Rattle.std.proofs.Common.{rules}
use Prim.Native.Nat.{◌+◌, ◌-◌, ◌^◌}
use mathlib.Core.Path.{◌≡◌, ap}
use native.Mathlib.Omega.{arith}
use Rattle.clefia_spec.specs.Words.{Below}
use Rattle.clefia_laws.specs.DigitLaws.{below_all}
use Rattle.cipher_network4_four_way.specs.declared.FourStates.{FourStates}
use Rattle.book_crypt_sheet.specs.ClearWritten.{written_turn}
use Rattle.book_crypt_sheet.proofs.write_four.Goals as goal

pub returns : goal.returns
returns g c e left size k h =
    let at = c.args.at in
    let words : Below (2 ^ 32) c.args.cipher.expanded.now =
    below_all c.args.cipher.expanded.now c.args.cipher.are_words in
    let bytes : Below 256 c.args.body.now =
    below_all c.args.body.now
    (λ j i. search rules) in
    let p : at + 64 ≡ at + 16 + 16 + 16 + 16 = omega arith in
    let n : left - 4 ≡ left - 1 - 1 - 1 - 1 = omega arith in
    rw (p, n)
    (written_turn words bytes size
    (written_turn words bytes size
    (written_turn words bytes size
    (written_turn words bytes size k (omega arith) (ap (λ (x : FourStates). x.a) c.decrypt_four-t.ensures)
    c.write_clear-p.ensures)
    (omega arith) (ap (λ (x : FourStates). x.b) c.decrypt_four-t.ensures)
    c.write_clear-q.ensures)
    (omega arith) (ap (λ (x : FourStates). x.c) c.decrypt_four-t.ensures)
    c.write_clear-r.ensures)
    (omega arith) (ap (λ (x : FourStates). x.d) c.decrypt_four-t.ensures) c.write_clear.ensures)
