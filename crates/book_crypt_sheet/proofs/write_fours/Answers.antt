use Rattle.std.proofs.Common.{◌≡◌, ◌+◌, ◌-◌, ◌*◌, true, arith}
use Rattle.clefia_laws.specs.DigitLaws.{below_all}
use Rattle.planbook_spec.specs.Book.{count}
use Rattle.book_sheets.specs.Left.{whole_sheet}
use Rattle.book_crypt_sheet.specs.Continued.{continued_first}
use Rattle.book_crypt_sheet.proofs.write_fours.Goals as goal

pub loop-i-init : goal.loop-i-init
loop-i-init g c =
    continued_first true c.args.cipher.expanded.now (whole_sheet c.args.sheet)
    (below_all c.args.sheet.entry.now c.args.sheet.entry_bytes) c.args.sheet.entry_len c.requires c.new-chain.ensures

pub loop-i-preserved : goal.loop-i-preserved
loop-i-preserved g c =
    let e = c.args.sheet.entry.now in
    let at : 64 * (c.loop-i.i + 1) ≡ 64 * c.loop-i.i + 64 = omega arith in
    let left : count e - 4 * (c.loop-i.i + 1) ≡ count e - 4 * c.loop-i.i - 4 = omega arith in
    rw (at, left) (c.write_four-next.ensures e _ c.args.sheet.body_len c.loop-i.invariant
    (omega (arith, c.loop-i-test.true, c.u16_at-fours.ensures)))
