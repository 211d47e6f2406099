use Rattle.std.proofs.Common.{◌≡◌, ℕ, ◌<◌, ◌+◌, ◌∙◌, sym, length, get_or, take, drop, length-take, length-drop, get_or-take, get_or-drop, arith, rules}
use Rattle.std.proofs.lemmas.Grind.{same_number_lists}
use Rattle.cipher_bytes.specs.ListLaws.{four_at_lem}
use Rattle.cipher_round_keys.proofs.four_at.Goals as goal

pub returns : goal.returns
returns c =
    let s = c.args.expanded.now in
    let at = c.args.at in
    let size : length c.from_fn.result ≡ 4 = search rules in
    let made : (k : ℕ) → k < 4 → get_or c.from_fn.result k 0 ≡ get_or s (at + k) 0 = λ k h. search rules in
    let same : length c.from_fn.result ≡ length (take 4 (drop at s)) = simp (length-take, length-drop) (omega arith) in
    same_number_lists c.from_fn.result (take 4 (drop at s)) same
    (λ k h. let small : k < 4 = omega arith in made k small ∙ sym (rw (get_or-take, get_or-drop)))
    ∙ four_at_lem s at (omega arith)
