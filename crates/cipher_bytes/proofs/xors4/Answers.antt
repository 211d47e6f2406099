use Rattle.std.proofs.Common.{◌≡◌, ℕ, ◌<◌, ◌∙◌, sym, length, get_or, arith, rules}
use Rattle.std.proofs.lemmas.Grind.{same_number_lists}
use Rattle.clefia_spec.specs.Words.{◌⊕◌, xors}
use Rattle.clefia_laws.specs.DigitLaws.{length_xors, get_d_xors}
use Rattle.cipher_bytes.proofs.xors4.Goals as goal

pub returns : goal.returns
returns c =
    let a = c.args.a in
    let b = c.args.b in
    let size : length c.from_fn.result ≡ 4 = search rules in
    let made : (k : ℕ) → k < 4 → get_or c.from_fn.result k 0 ≡ get_or a k 0 ⊕ get_or b k 0 = λ k h. search rules in
    let same : length c.from_fn.result ≡ length (xors a b) = omega (arith, length_xors a b) in
    same_number_lists c.from_fn.result (xors a b) same
    (λ k h. made k (omega arith) ∙ sym (get_d_xors a b k (omega arith) (omega arith)))
