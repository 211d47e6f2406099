use Rattle.std.proofs.Common.{◌≡◌, ◌+◌, ◌-◌, ◌*◌, ◌^◌, Bool, false, ◌&&◌, drop, refl, sym, ap, ◌∙◌, arith}
use mathlib.Core.Bool.{and-true, and-false}
use Rattle.clefia_spec.specs.Words.{bytes_of, words_of, xors, Below}
use Rattle.clefia_laws.specs.DigitLaws.{below_all}
use Rattle.clefia_spec.specs.Block.{decrypt_words}
use Rattle.planbook_spec.specs.Book.{count, record_holds}
use Rattle.book_entries.specs.declared.entry.Sheet.{Sheet}
use Rattle.book_chain.specs.ChainLaws.{Decrypted, decrypted_broken, decrypted_step, decrypted_end}
use Rattle.book_check_sheet.proofs.rest_holds.Goals as goal
use Rattle.book_check_sheet.proofs.rest_holds.Given.{Over}
use Rattle.book_check_sheet.proofs.rest_holds.Goals.{After-record_holds}

-- what is known of record i, which was decrypted
tested : (g : Over) (c : After-record_holds g) → c.record_holds.result
    ≡ record_holds c.args.sheet.entry.now (bytes_of (xors c.loop-i.chain.previous
    (decrypt_words c.args.cipher.expanded.now (words_of 4 (drop (16 * c.loop-i.i) c.args.sheet.body.now)))))
tested g c =
    c.record_holds.ensures c.args.sheet.entry.now c.read_sheet-read.ensures
    ∙ rw (c.decrypt-clear.ensures.block, c.load.ensures) refl

-- that record has been looked at
looked : (g : Over) (c : After-record_holds g) → Decrypted (c.args.held && c.record_holds.result)
    c.args.cipher.expanded.now c.args.sheet.entry.now c.args.sheet.body.now (16 * (c.loop-i.i + 1))
    (count c.args.sheet.entry.now - (c.loop-i.i + 1)) (words_of 4 (drop (16 * c.loop-i.i) c.args.sheet.body.now))
looked g c =
    let s = c.args.sheet in
    let keys : Below (2 ^ 32) c.args.cipher.expanded.now =
    below_all c.args.cipher.expanded.now c.args.cipher.are_words in
    let at : 16 * (c.loop-i.i + 1) ≡ 16 * c.loop-i.i + 16 = omega arith in
    let left : count s.entry.now - (c.loop-i.i + 1) ≡ count s.entry.now - c.loop-i.i - 1 = omega arith in
    rw (at, left) (decrypted_step c.loop-i.invariant keys (below_all s.body.now s.body_bytes) s.body_len
    (omega (arith, c.loop-i-test.true, ap (λ (x : Sheet). x.count) c.read_sheet-read.ensures)) (tested g c))

pub returns-then-not-record_holds : goal.returns-then-not-record_holds
returns-then-not-record_holds g c =
    let b : (c.args.held && c.record_holds.result) ≡ false =
    ap (λ (x : Bool). c.args.held && x) c.if-not-record_holds.true ∙ and-false c.args.held in
    sym b ∙ decrypted_broken (looked g (goal.at.returns-then-not-record_holds g c).After-record_holds) b

pub loop-i-preserved : goal.loop-i-preserved
loop-i-preserved g c =
    let b : (c.args.held && c.record_holds.result) ≡ c.args.held =
    ap (λ (x : Bool). c.args.held && x) c.if-not-record_holds.false ∙ and-true c.args.held in
    rw (c.decrypt-clear.ensures.next, c.load.ensures)
    (rw b at (looked g (goal.at.loop-i-preserved g c).After-record_holds))

pub returns : goal.returns
returns g c = decrypted_end c.loop-i.invariant
    (omega (arith, c.loop-i-test.false, ap (λ (x : Sheet). x.count) c.read_sheet-read.ensures))
