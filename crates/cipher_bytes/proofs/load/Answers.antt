use Rattle.std.proofs.Common.{◌≡◌, ℕ, ◌<◌, ◌+◌, ◌*◌, ◌∙◌, sym, length, get_or, drop, drop-drop, arith, rules}
use Rattle.std.proofs.lemmas.Grind.{same_number_lists}
use Rattle.clefia_spec.specs.Words.{words_of}
use Rattle.clefia_laws.specs.DigitLaws.{length_numbers_of}
use Rattle.cipher_bytes.specs.ListLaws.{word_at, get_d_words}
use Rattle.cipher_bytes.proofs.load.Goals as goal

pub returns : goal.returns
unfolding word_at
returns c =
    let s = c.args.src.now in
    let at = c.args.at in
    let words = words_of 4 (drop at s) in
    let size : length c.from_fn.result ≡ 4 = search rules in
    let made : (k : ℕ) → k < 4 → get_or c.from_fn.result k 0 ≡ word_at s (at + 4 * k) = λ k h. search rules in
    let same : length c.from_fn.result ≡ length words = omega (arith, length_numbers_of 256 4 4 (drop at s)) in
    same_number_lists c.from_fn.result words same
    (λ k h. made k (omega arith) ∙ sym (get_d_words 4 (drop at s) k (omega arith) ∙ rw (drop-drop (4 * k) at s)))
