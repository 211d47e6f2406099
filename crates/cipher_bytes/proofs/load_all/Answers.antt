use Rattle.std.proofs.Common.{◌≡◌, ℕ, ◌∙◌, sym, length, get_or, arith, take_all}
use Rattle.clefia_spec.specs.Words.{words_of}
use Rattle.clefia_laws.specs.DigitLaws.{length_numbers_of}
use Rattle.cipher_bytes.specs.ListLaws.{word_at, get_d_words, fill_one}
use Rattle.cipher_bytes.proofs.load_all.Goals as goal

pub loop-i-preserved : goal.loop-i-preserved
unfolding word_at
loop-i-preserved c =
    let n : ℕ = length c.args.dst.now in
    let w : c.word.result ≡ get_or (words_of n c.args.src.now) c.loop-i.i 0 = c.word.ensures
    ∙ sym (get_d_words n c.args.src.now c.loop-i.i (omega arith)) in
    rw w (fill_one c.loop-i.i c.loop-i.dst (words_of n c.args.src.now) (omega arith)
    (rw (length_numbers_of 256 4) (omega arith)) c.loop-i.invariant)

pub returns : goal.returns
returns c =
    let n : ℕ = length c.args.dst.now in
    let e : c.loop-i.i ≡ n = omega arith in
    sym (take_all n c.loop-i.dst (omega arith)) ∙ (rw e at c.loop-i.invariant)
    ∙ take_all n (words_of n c.args.src.now) (rw (length_numbers_of 256 4) (omega arith))
