-- A book is its sheets: a book whose form holds is the book of its sheets; the sheets of a book
-- that sheets make are these; and a function applied to each body, as sealing and opening are, is a
-- map over them. So sheet i of a sealed book has its entry as it was, and its body encrypted.
use Prim.Native.Nat.{ℕ, zero, suc, ◌+◌, ◌*◌, ◌^◌, ◌<◌}
use mathlib.Core.List.{List, [], ◌∷◌, ◌++◌, map, append_assoc}
use Rattle.std.specs.Prelude.{◌≡◌, eqb, get_or, take, drop}
use Rattle.std.proofs.Math.Path.{refl, ap}
use Rattle.std.proofs.Common.{sym, ◌∙◌, mod-eq_of_lt, arith, eqb-true, lit<, length-append, take_at, drop_at, take-add}
use Rattle.std.proofs.Math.ListN.{length, length-map, get_or-map}
use Rattle.clefia_spec.specs.Cases.{both_true}
use Rattle.clefia_spec.specs.Words.{from_digits, to_digits, Below, none, more}
use Rattle.clefia_laws.specs.DigitLaws.{from_to, to_from}
use Rattle.clefia_laws.specs.SizedLaws.{Bytes, sized_drop}
use Rattle.planbook_spec.specs.OutcomeLaws.{AllPass, pass_head, pass_tail}
use Rattle.planbook_spec.specs.Book.{number, pieces, count, sheet_count, contents, bodies, record_count, sheet_entry}
use Rattle.planbook_spec.specs.Book.{sheet_body, form_checks, each_body, as_it_is, map_bodies}
use Rattle.planbook_spec.specs.BookSheets.{WholeSheet, sheets_from, sheets_of, join_entries, join_bodies, book_of, on_body}
use Rattle.planbook_laws.specs.Undoing.{Every, nothing, both, every_map, Through, first_body, other_bodies}
use Rattle.planbook_laws.specs.BookLaws.{formed, Shaped, shaped, shape, shaped_entries, map_bodies_as_it_is}
use Rattle.planbook_laws.specs.SheetLaws.{nth_entry, nth_body, nth_entry_next, nth_body_next}

-- ---- lists of sheets

length_sheets : (n : ℕ) (xs bs : List ℕ) → length (sheets_from (pieces 24 n xs) bs) ≡ n
unfolding pieces sheets_from
length_sheets zero xs bs = refl
length_sheets (suc n) xs bs = ap suc (length_sheets n (drop 24 xs) _)

-- The entries that were cut off, joined again.
entries_joined : (n : ℕ) (xs bs : List ℕ) → join_entries (sheets_from (pieces 24 n xs) bs) ≡ take (24 * n) xs
unfolding pieces sheets_from join_entries
entries_joined zero xs bs = refl
entries_joined (suc n) xs bs =
    let e : 24 * suc n ≡ 24 + 24 * n = omega arith in
    rw (e, take-add 24 (24 * n) xs) (ap (λ (l : List ℕ). take 24 xs ++ l) (entries_joined n (drop 24 xs) _))

-- A map leaves the entries, and the bodies are those of `each_body`.
module _ (f : List ℕ → List ℕ → List ℕ) where
  mapped_entries : (ss : List WholeSheet) → join_entries (map (on_body f) ss) ≡ join_entries ss
  unfolding join_entries
  mapped_entries [] = refl
  mapped_entries (s ∷ ss) = ap (λ (l : List ℕ). s.entry ++ l) (mapped_entries ss)

  mapped_bodies : (es : List (List ℕ)) (bs : List ℕ) → join_bodies (map (on_body f) (sheets_from es bs))
      ≡ each_body f es bs
  unfolding join_bodies sheets_from each_body
  mapped_bodies [] bs = refl
  mapped_bodies (e ∷ es) bs = ap (λ (l : List ℕ). f e (take (16 * count e) bs) ++ l)
      (mapped_bodies es (drop (16 * count e) bs))

map_as_it_is : (ss : List WholeSheet) → map (on_body as_it_is) ss ≡ ss
map_as_it_is [] = refl
map_as_it_is (s ∷ ss) = ap (λ (l : List WholeSheet). s ∷ l) (map_as_it_is ss)

-- ---- a book is its sheets

-- A sheet that fits a book: an entry of 24 bytes, and a body of as many records as it says.
pub record Fitting (s : WholeSheet) : Type 0 where
  pub entry : length s.entry ≡ 24
  pub body : length s.body ≡ 16 * count s.entry

pub data AllFitting : List WholeSheet → Type 0 where
  no_sheets : AllFitting []
  one_more : {s : WholeSheet} {ss : List WholeSheet} → Fitting s → AllFitting ss → AllFitting (s ∷ ss)

-- What is cut out of joined entries and bodies is the sheets, whatever follows the entries.
sheets_joined : {ss : List WholeSheet} → AllFitting ss → (rest : List ℕ)
    → sheets_from (pieces 24 (length ss) (join_entries ss ++ rest)) (join_bodies ss) ≡ ss
unfolding pieces sheets_from join_entries join_bodies
sheets_joined no_sheets rest = refl
sheets_joined (one_more {s = s} {ss = ss} f fs) rest =
    rw (
      append_assoc s.entry (join_entries ss) rest,
      take_at s.entry (join_entries ss ++ rest) 24 f.entry,
      drop_at s.entry (join_entries ss ++ rest) 24 f.entry,
      take_at s.body (join_bodies ss) (16 * count s.entry) f.body,
      drop_at s.body (join_bodies ss) (16 * count s.entry) f.body,
    )
    (ap (λ (l : List WholeSheet). s ∷ l) (sheets_joined fs rest))

length_entries : {ss : List WholeSheet} → AllFitting ss → length (join_entries ss) ≡ 24 * length ss
unfolding join_entries
length_entries no_sheets = refl
length_entries (one_more {s = s} {ss = ss} f fs) = length-append s.entry (join_entries ss)
    ∙ omega (arith, f.entry, length_entries fs)

-- The number of sheets in the head.
count_in_head : (kind : ℕ) (ss : List WholeSheet) → length ss < 2 ^ 16 → sheet_count (book_of kind ss) ≡ length ss
unfolding book_of number to_digits
count_in_head kind ss h = rw (mod-eq_of_lt h) at (from_to {b = 256} (lit< tt) 2 (length ss))

-- The sheets of the book that sheets make.
pub sheets_of_book : (kind : ℕ) {ss : List WholeSheet} → AllFitting ss → length ss < 2 ^ 16
    → sheets_of (book_of kind ss) ≡ ss
unfolding book_of to_digits
sheets_of_book kind {ss} fs h =
    rw (count_in_head kind ss h, drop_at (join_entries ss) (join_bodies ss) (24 * length ss) (length_entries fs))
    (sheets_joined fs (join_bodies ss))

-- Byte 1 of a book whose form holds is 0.
second_byte : (kind : ℕ) (book : List ℕ) → AllPass (form_checks kind book) → get_or book 1 0 ≡ 0
unfolding form_checks
second_byte kind book p = eqb-true (get_or book 1 0) 0
    (both_true (eqb (get_or book 0 0) kind) (eqb (get_or book 1 0) 0) (pass_head (pass_tail p))).1

-- Sealing and opening are a map over the sheets: head, contents and bodies are those of the book
-- that the mapped sheets make.
module _ (kind kind' : ℕ) (f : List ℕ → List ℕ → List ℕ) where
  shaped_mapped : {book : List ℕ} → Shaped kind book → Below 256 book → get_or book 1 0 ≡ 0
      → map_bodies kind' f book ≡ book_of kind' (map (on_body f) (sheets_of book))
  unfolding map_bodies book_of number
  shaped_mapped (shaped b c d {bs = bs} q) (more hk (more hb (more hc (more hd r)))) z =
      let n : ℕ = from_digits 256 (c ∷ d ∷ []) in
      let es : List (List ℕ) = pieces 24 n bs in
      let ss : List WholeSheet = sheets_from es (drop (24 * n) bs) in
      let size : length (map (on_body f) ss) ≡ n = length-map ss (on_body f) ∙ length_sheets n bs (drop (24 * n) bs) in
      let digits : to_digits 256 2 n ≡ c ∷ d ∷ [] = to_from (lit< tt) (more hc (more hd none)) in
      rw (
        size,
        digits,
        mapped_entries f ss,
        mapped_bodies f es (drop (24 * n) bs),
        entries_joined n bs (drop (24 * n) bs),
        z,
      )

  pub mapped_sheets : (book : List ℕ) → Below 256 book → AllPass (form_checks kind book)
      → map_bodies kind' f book ≡ book_of kind' (map (on_body f) (sheets_of book))
  mapped_sheets book r p = shaped_mapped (shape kind book r p) r (second_byte kind book p)

-- The book that its own sheets make.
pub book_of_sheets : (kind : ℕ) (book : List ℕ) → Below 256 book → AllPass (form_checks kind book)
    → book_of kind (sheets_of book) ≡ book
book_of_sheets kind book r p =
    ap (book_of kind) (sym (map_as_it_is (sheets_of book))) ∙ sym (mapped_sheets kind kind as_it_is book r p)
    ∙ map_bodies_as_it_is (shape kind book r p)

-- ---- the sheets of a book with f applied to its bodies

fitting_from : {f g h : List ℕ → List ℕ → List ℕ} {es : List (List ℕ)} → Every (Bytes 24) es
    → Every (Through f g h) es → (bs : List ℕ) → Bytes (16 * record_count es) bs
    → AllFitting (map (on_body f) (sheets_from es bs))
unfolding sheets_from
fitting_from nothing nothing bs b = no_sheets
fitting_from (both {e = e} {es = es} p ps) (both t ts) bs b =
    one_more (record { entry = p.size; body = (t.keeps _ (first_body e es b)).size })
    (fitting_from ps ts _ (other_bodies e es b))

shaped_bodies : {kind : ℕ} {book : List ℕ} → Shaped kind book → Bytes (16 * record_count (contents book)) (bodies book)
unfolding number
shaped_bodies (shaped b c d {bs = bs} q) = sized_drop (24 * from_digits 256 (c ∷ d ∷ [])) _ q refl

-- Every sheet of a book whose form holds fits.
pub book_fitting : (kind : ℕ) (book : List ℕ) → Below 256 book → AllPass (form_checks kind book)
    → AllFitting (sheets_of book)
book_fitting kind book r p =
    let s : Shaped kind book = shape kind book r p in
    let es : Every (Bytes 24) (contents book) = shaped_entries s in
    let ts : Every (Through as_it_is as_it_is as_it_is) (contents book) =
    every_map (λ e b. record { keeps = λ x q. q; meets = λ x q. refl }) es in
    rw (map_as_it_is (sheets_of book)) at (fitting_from es ts (bodies book) (shaped_bodies s))

module _ {f g h : List ℕ → List ℕ → List ℕ} (kind kind' : ℕ) (book : List ℕ) (below : Below 256 book)
    (form : AllPass (form_checks kind book)) (t : Every (Through f g h) (contents book)) where
  pub sheets_mapped : sheets_of (map_bodies kind' f book) ≡ map (on_body f) (sheets_of book)
  sheets_mapped =
      let s : Shaped kind book = shape kind book below form in
      let size : length (map (on_body f) (sheets_of book)) ≡ sheet_count book = length-map (sheets_of book) (on_body f)
      ∙ length_sheets (sheet_count book) (drop 4 book) (bodies book) in
      rw (mapped_sheets kind kind' f book below form)
      (sheets_of_book kind' (fitting_from (shaped_entries s) t (bodies book) (shaped_bodies s))
      (omega (arith, size, (formed kind book form).few)))

-- ---- sheet i

-- Its entry and its body.
abbrev pub whole_sheet : ℕ → List ℕ → WholeSheet
whole_sheet i book = record { entry = sheet_entry i book; body = sheet_body i book }

sheet_from : (d : WholeSheet) (i n : ℕ) (xs bs : List ℕ) → i < n
    → get_or (sheets_from (pieces 24 n xs) bs) i d ≡ record { entry = nth_entry i xs; body = nth_body i xs bs }
unfolding pieces sheets_from record_count
sheet_from d i zero xs bs h = absurd (omega arith)
sheet_from d zero (suc n) xs bs h = refl
sheet_from d (suc i) (suc n) xs bs h =
    rw (nth_body_next i xs bs, nth_entry_next i xs)
    (sheet_from d i n (drop 24 xs) (drop (16 * count (take 24 xs)) bs) (omega arith))

-- It is the one at place i of the sheets.
pub sheet_at : (d : WholeSheet) (i : ℕ) (book : List ℕ) → i < sheet_count book
    → get_or (sheets_of book) i d ≡ whole_sheet i book
sheet_at d i book h = sheet_from d i (sheet_count book) (drop 4 book) (bodies book) h

-- The head keeps its number of sheets.
same_count : {kind : ℕ} (kind' : ℕ) (f : List ℕ → List ℕ → List ℕ) {book : List ℕ} → Shaped kind book
    → sheet_count (map_bodies kind' f book) ≡ sheet_count book
unfolding map_bodies number
same_count kind' f (shaped b c d q) = refl

-- Sheet i of a book with f applied to its bodies: the entry as it was, and f of the body.
pub sheet_mapped : {f g h : List ℕ → List ℕ → List ℕ} (kind kind' : ℕ) (book : List ℕ) → Below 256 book
    → AllPass (form_checks kind book) → Every (Through f g h) (contents book) → (i : ℕ) → i < sheet_count book
    → whole_sheet i (map_bodies kind' f book) ≡ on_body f (whole_sheet i book)
sheet_mapped {f} kind kind' book below form t i there =
    let d : WholeSheet = whole_sheet i book in
    let n : sheet_count (map_bodies kind' f book) ≡ sheet_count book =
    same_count kind' f (shape kind book below form) in
    sym (sheet_at (on_body f d) i (map_bodies kind' f book) (rw n there))
    ∙ ap (λ (ss : List WholeSheet). get_or ss i (on_body f d)) (sheets_mapped kind kind' book below form t)
    ∙ get_or-map (on_body f) (sheets_of book) i d
    ∙ ap (on_body f) (sheet_at d i book there)
