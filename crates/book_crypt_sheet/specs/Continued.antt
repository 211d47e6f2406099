-- A body that is written up to a place: where that begins, and where it has come to the end.
use Rattle.std.specs.Prelude.{ℕ, ◌-◌, ◌*◌, ◌≡◌, Bool, List, length, drop}
use Rattle.std.proofs.Common.{arith}
use Rattle.clefia_spec.specs.Words.{words_of, Below}
use Rattle.planbook_spec.specs.Book.{count}
use Rattle.planbook_spec.specs.BookSheets.{WholeSheet}
use Rattle.book_chain.specs.declared.Chain.{Chain}
use Rattle.book_chain.specs.ChainLaws.{Chained, chain_start}
use Rattle.book_crypt_sheet.specs.declared.Place.{Place}

abbrev pub Continued : Bool → List ℕ → WholeSheet → List ℕ → Place → Type 0
Continued decrypting w s out p =
    Chained decrypting w s.entry s.body out (16 * p.written) (count s.entry - p.written) p.chain.previous

-- Nothing is written.
pub continued_first : (decrypting : Bool) (w : List ℕ) (s : WholeSheet) {out : List ℕ} {c : Chain} → Below 256 s.entry
    → length s.entry ≡ 24 → length out ≡ 16 * count s.entry → c.previous ≡ words_of 4 (drop 8 s.entry)
    → Continued decrypting w s out (record { written = 0; chain = c })
continued_first decrypting w s b l m e =
    let all : count s.entry - 0 ≡ count s.entry = omega arith in
    rw (all, e) (chain_start decrypting w s.body b l m)
