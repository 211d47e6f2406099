use Rattle.std.proofs.Common.{ℕ, ◌≡◌, ◌+◌, ◌-◌, ◌*◌, ◌^◌, ◌<◌, ap, ◌∙◌, drop, arith}
use Rattle.clefia_spec.specs.Words.{words_of, Below}
use Rattle.clefia_laws.specs.DigitLaws.{below_all}
use Rattle.planbook_spec.specs.Book.{count}
use Rattle.book_chain.specs.ChainLaws.{chain_turn, chain_end}
use Rattle.book_crypt_sheet.proofs.crypt_sheet.Goals as goal

pub returns-then-start-count : goal.returns-then-start-count
returns-then-start-count g c =
    chain_end _ c.begin-start.ensures (omega (arith, c.if-start-count.true, c.u16_at-count.ensures))

pub loop-i-preserved : goal.loop-i-preserved
loop-i-preserved g c =
    let s = c.args.sheet in
    let words : Below (2 ^ 32) c.args.cipher.expanded.now =
    below_all c.args.cipher.expanded.now c.args.cipher.are_words in
    let bytes : Below 256 s.body.now = below_all s.body.now s.body_bytes in
    let more : c.loop-i.i < count s.entry.now = omega (arith, c.loop-i-test.true, c.u16_at-count.ensures) in
    let at : 16 * (c.loop-i.i + 1) ≡ 16 * c.loop-i.i + 16 = omega arith in
    let left : count s.entry.now - (c.loop-i.i + 1) ≡ count s.entry.now - c.loop-i.i - 1 = omega arith in (
      rw (
        at,
        left,
        c.exchange-read.ensures.written,
        c.crypt-written.ensures.block,
        c.crypt-written.ensures.next,
        c.loop-i.invariant.1 more,
      )
          (chain_turn c.args.decrypting c.loop-i.chain words bytes s.body_len (omega (arith, more))
          c.loop-i.invariant.0),
      λ m. c.exchange-read.ensures.read ∙ ap (λ (n : ℕ). words_of 4 (drop n s.body.now))
          (c.following-from.ensures.0 (omega (arith, m, s.body_len)) ∙ omega arith),
    )

pub returns : goal.returns
returns g c =
    chain_end _ c.loop-i.invariant.0 (omega (arith, c.loop-i-test.false, c.u16_at-count.ensures))
