-- Entries end to end, and their bodies: the first of them, and the rest.
use Rattle.std.specs.Prelude.{ℕ, suc, ◌+◌, ◌*◌, ◌/◌, ◌≤◌, ◌<◌, ◌≡◌, List, [], ◌∷◌, length, get_or, take, drop}
use Rattle.std.proofs.Common.{sym, ◌∙◌, ap, arith, lit<, length-take, length-drop, take-append-drop}
use Rattle.clefia_laws.specs.DigitLaws.{below_take, below_drop, below_get_d, below_all}
use Rattle.planbook_spec.specs.Book.{pieces, count, record_count}
use Rattle.planbook_spec.specs.BookSheets.{sheets_from}
use Rattle.planbook_laws.specs.BookLaws.{pieces_append}

-- Every number of the row is a byte. That is known of a slice that is passed, and not of one that a
-- struct holds, so the structs say it.
abbrev pub AreBytes : List ℕ → Type 0
AreBytes l = (i : ℕ) → i < length l → get_or l i 0 < 256

pub bytes_take : (n : ℕ) (l : List ℕ) → AreBytes l → AreBytes (take n l)
bytes_take n l f i h = below_get_d (lit< tt) (below_take n (below_all l f)) i

pub bytes_drop : (n : ℕ) (l : List ℕ) → AreBytes l → AreBytes (drop n l)
bytes_drop n l f i h = below_get_d (lit< tt) (below_drop n (below_all l f)) i

abbrev pub entries_of : List ℕ → List (List ℕ)
entries_of es = pieces 24 (length es / 24) es

-- The entries that are cut off a row.
pub entries_cut : (n : ℕ) (xs : List ℕ) → 24 * n ≤ length xs → entries_of (take (24 * n) xs) ≡ pieces 24 n xs
entries_cut n xs h =
    let size : length (take (24 * n) xs) ≡ 24 * n = simp length-take (omega arith) in
    let many : length (take (24 * n) xs) / 24 ≡ n = omega arith in
    rw many (sym (pieces_append 24 n (take (24 * n) xs) (drop (24 * n) xs) size)
    ∙ ap (pieces 24 n) (take-append-drop (24 * n) xs))

pub no_entries : (es : List ℕ) → length es < 24 → entries_of es ≡ []
unfolding pieces
no_entries es h = let z : length es / 24 ≡ 0 = omega arith in rw z

pub first_entry : (es : List ℕ) → 24 ≤ length es → entries_of es ≡ take 24 es ∷ entries_of (drop 24 es)
unfolding pieces
first_entry es h =
    let n : length es / 24 ≡ suc (length (drop 24 es) / 24) = simp length-drop (omega arith) in
    rw n

-- ---- entries es, of which there is one, with their bodies bs

module _ (es bs : List ℕ) (some : 24 ≤ length es) (whole : length es ≡ 24 * (length es / 24))
    (fits : length bs ≡ 16 * record_count (entries_of es)) where
  counted : length bs ≡ 16 * (count (take 24 es) + record_count (entries_of (drop 24 es)))
  unfolding record_count
  counted = fits ∙ ap (λ (l : List (List ℕ)). 16 * record_count l) (first_entry es some)

  pub body_fits : 16 * count (take 24 es) ≤ length bs
  body_fits = omega (arith, counted)

  pub entries_after : length (drop 24 es) ≡ 24 * (length (drop 24 es) / 24)
  entries_after = simp length-drop (omega arith)

  pub bodies_after : length (drop (16 * count (take 24 es)) bs) ≡ 16 * record_count (entries_of (drop 24 es))
  bodies_after = omega (arith, length-drop (16 * count (take 24 es)) bs, counted)

  pub first_sheet : sheets_from (entries_of es) bs
      ≡ record { entry = take 24 es; body = take (16 * count (take 24 es)) bs }
      ∷ sheets_from (entries_of (drop 24 es)) (drop (16 * count (take 24 es)) bs)
  unfolding sheets_from
  first_sheet = rw (first_entry es some)
