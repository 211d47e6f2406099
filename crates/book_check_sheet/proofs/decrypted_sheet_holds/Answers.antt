use Rattle.std.proofs.Common.{◌≡◌, ◌-◌, arith}
use Rattle.clefia_laws.specs.DigitLaws.{below_all}
use Rattle.planbook_spec.specs.Book.{count}
use Rattle.book_chain.specs.ChainLaws.{decrypted_start}
use Rattle.book_check_sheet.proofs.decrypted_sheet_holds.Goals as goal

pub loop-i-init : goal.loop-i-init
loop-i-init g c =
    let s = c.args.sheet in
    let all : count s.entry.now - 0 ≡ count s.entry.now = omega arith in
    rw (all, c.new-chain.ensures) (decrypted_start c.args.cipher.expanded.now s.entry.now s.body.now
    (below_all s.entry.now s.entry_bytes) s.entry_len)
