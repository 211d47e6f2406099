-- A book with a function applied to its bodies: its head, contents and checks stay, and a function
-- that undoes that of the bodies undoes that of the book.
use Prim.Native.Nat.{ℕ, zero, suc, ◌+◌, ◌*◌, ◌^◌, ◌≤◌, ◌<◌}
use Rattle.std.proofs.lemmas.Bool.{false≢true}
use mathlib.Core.List.{List, [], ◌∷◌, ◌++◌}
use Rattle.std.specs.Prelude.{◌≡◌, leb, length, take, drop}
use Rattle.std.proofs.Math.Path.{refl, sym, ap}
use Rattle.std.proofs.Common.{◌∙◌, subst, arith, length-drop, take-append-drop, take_at, drop_at}
use borrow.Author.Tests.{leb-true, eqb-true, eq-eqb}
use Rattle.std.proofs.lemmas.List.{take-append-le, drop-append-le}
use Rattle.clefia_spec.specs.Cases.{both_true}
use Rattle.clefia_spec.specs.Words.{from_digits, Below, more}
use Rattle.clefia_laws.specs.SizedLaws.{Bytes, sized_append, sized_take, sized_drop}
use Rattle.planbook_spec.specs.Outcome.{check}
use Rattle.planbook_spec.specs.OutcomeLaws.{AllPass, pass_head, pass_tail}
use Rattle.planbook_spec.specs.Book.{number, pieces, sheet_count, contents, record_count, form_checks, each_body}
use Rattle.planbook_spec.specs.Book.{sheets_hold, records_check, as_it_is, map_bodies}
use Rattle.planbook_laws.specs.Undoing.{Every, nothing, both, Through, each_keeps, each_through, each_as_it_is}
use Rattle.planbook_laws.specs.Undoing.{sheets_through}

-- ---- pieces

-- Pieces depend only on the bytes that they are cut from.
pub pieces_append : (k n : ℕ) (xs ys : List ℕ) → length xs ≡ k * n → pieces k n (xs ++ ys) ≡ pieces k n xs
unfolding pieces
pieces_append k zero xs ys e = refl
pieces_append k (suc n) xs ys e =
    let fits : k ≤ length xs = omega arith in
    rw (
      take-append-le k xs ys fits,
      drop-append-le k xs ys fits,
      pieces_append k n (drop k xs) ys (omega (arith, length-drop k xs)),
    )

pub pieces_bytes : (k n m : ℕ) {xs : List ℕ} → Bytes (k * n + m) xs → Every (Bytes k) (pieces k n xs)
unfolding pieces
pieces_bytes k zero m b = nothing
pieces_bytes k (suc n) m b = both (sized_take k (k * n + m) b (omega arith))
    (pieces_bytes k n m (sized_drop k (k * n + m) b (omega arith)))

-- ---- what follows the head

abbrev mapped_rest : (List ℕ → List ℕ → List ℕ) → ℕ → List ℕ → List ℕ
mapped_rest f n bs = take (24 * n) bs ++ each_body f (pieces 24 n bs) (drop (24 * n) bs)

module _ {f g h : List ℕ → List ℕ → List ℕ} (n : ℕ) (bs : List ℕ)
    (b : Bytes (24 * n + 16 * record_count (pieces 24 n bs)) bs) (t : Every (Through f g h) (pieces 24 n bs)) where
  front : Bytes (24 * n) (take (24 * n) bs)
  front = sized_take (24 * n) (16 * record_count (pieces 24 n bs)) b refl

  back : Bytes (16 * record_count (pieces 24 n bs)) (drop (24 * n) bs)
  back = sized_drop (24 * n) (16 * record_count (pieces 24 n bs)) b refl

  rest_front : take (24 * n) (mapped_rest f n bs) ≡ take (24 * n) bs
  rest_front = take_at (take (24 * n) bs) _ (24 * n) front.size

  rest_bodies : drop (24 * n) (mapped_rest f n bs) ≡ each_body f (pieces 24 n bs) (drop (24 * n) bs)
  rest_bodies = drop_at (take (24 * n) bs) _ (24 * n) front.size

  rest_contents : pieces 24 n (mapped_rest f n bs) ≡ pieces 24 n bs
  rest_contents =
      pieces_append 24 n (take (24 * n) bs) _ front.size
      ∙ sym (pieces_append 24 n (take (24 * n) bs) (drop (24 * n) bs) front.size)
      ∙ ap (pieces 24 n) (take-append-drop (24 * n) bs)

  rest_keeps : Bytes (24 * n + 16 * record_count (pieces 24 n bs)) (mapped_rest f n bs)
  rest_keeps = sized_append (24 * n) (16 * record_count (pieces 24 n bs)) front
      (each_keeps t (drop (24 * n) bs) back) refl

  rest_through : mapped_rest g n (mapped_rest f n bs) ≡ mapped_rest h n bs
  rest_through =
      rw (rest_front, rest_bodies, rest_contents)
      (ap (λ (x : List ℕ). take (24 * n) bs ++ x) (each_through t (drop (24 * n) bs) back))

  rest_sheets : sheets_hold g (pieces 24 n (mapped_rest f n bs)) (drop (24 * n) (mapped_rest f n bs))
      ≡ sheets_hold h (pieces 24 n bs) (drop (24 * n) bs)
  rest_sheets = rw (rest_bodies, rest_contents) (sheets_through t (drop (24 * n) bs) back)

-- ---- whole books

-- A book with the first byte `kind`, and as long as its contents say.
pub data Shaped (kind : ℕ) : List ℕ → Type 0 where
  shaped : (b c d : ℕ) {bs : List ℕ}
      → Bytes (24 * from_digits 256 (c ∷ d ∷ []) + 16 * record_count (pieces 24 (from_digits 256 (c ∷ d ∷ [])) bs)) bs
      → Shaped kind (kind ∷ b ∷ c ∷ d ∷ bs)

-- What checks 5 to 10 say of a book's sizes, once they are passed.
pub record Formed (book : List ℕ) : Type 0 where
  pub few : sheet_count book ≤ 64
  pub short : length book ≤ 65532
  pub size : length book ≡ 4 + 24 * sheet_count book + 16 * record_count (contents book)

pub formed : (kind : ℕ) (book : List ℕ) → AllPass (form_checks kind book) → Formed book
unfolding form_checks
formed kind book p =
    let q : AllPass (drop 2 (form_checks kind book)) = pass_tail (pass_tail p) in
    record {
      few = leb-true _ 64 (pass_head q);
      short = leb-true (length book) 65532 (both_true (leb 4 (length book)) (leb (length book) 65532) (pass_head p)).1;
      size = eqb-true (length book) _ (pass_head (pass_tail (pass_tail (pass_tail q))));
    }

-- So the count of a book's records is below 2 ^ 32, by far.
pub formed_count : {book : List ℕ} → Formed book → record_count (contents book) < 2 ^ 32
formed_count f = omega (arith, f.short, f.size)

below_tail : {x : ℕ} {xs : List ℕ} → Below 256 (x ∷ xs) → Below 256 xs
below_tail (more h r) = r

-- Checks 5, 6 and 10 give a book that shape.
pub shape : (kind : ℕ) (book : List ℕ) → Below 256 book → AllPass (form_checks kind book) → Shaped kind book
unfolding form_checks number
shape kind [] r p = absurd (false≢true (pass_head p))
shape kind (a ∷ []) r p = absurd (false≢true (pass_head p))
shape kind (a ∷ b ∷ []) r p = absurd (false≢true (pass_head p))
shape kind (a ∷ b ∷ c ∷ []) r p = absurd (false≢true (pass_head p))
shape kind (a ∷ b ∷ c ∷ d ∷ bs) r p =
    let first : a ≡ kind = eqb-true a kind (both_true _ _ (pass_head (pass_tail p))).0 in
    let n : ℕ = from_digits 256 (c ∷ d ∷ []) in
    let size : suc (suc (suc (suc (length bs)))) ≡ 4 + 24 * n + 16 * record_count (pieces 24 n bs) =
    (formed kind (a ∷ b ∷ c ∷ d ∷ bs) p).size in
    subst (λ (x : ℕ). Shaped kind (x ∷ b ∷ c ∷ d ∷ bs)) (sym first)
    (shaped b c d (record { size = omega (arith, size); below = below_tail (below_tail (below_tail (below_tail r))) }))

-- Each entry of such a book is 24 bytes.
pub shaped_entries : {kind : ℕ} {book : List ℕ} → Shaped kind book → Every (Bytes 24) (contents book)
unfolding number
shaped_entries (shaped b c d {bs = bs} q) = pieces_bytes 24 (from_digits 256 (c ∷ d ∷ [])) _ q

module _ {f g h : List ℕ → List ℕ → List ℕ} (kind kind' : ℕ) where
  -- The changed book has the length of the book, its contents, and its checks.
  pub map_bodies_length : {book : List ℕ} → Shaped kind book → Every (Through f g h) (contents book)
      → length (map_bodies kind' f book) ≡ length book
  unfolding map_bodies number
  map_bodies_length (shaped b c d {bs = bs} q) t =
      ap (λ (k : ℕ). suc (suc (suc (suc k)))) ((rest_keeps _ bs q t).size ∙ sym q.size)

  pub map_bodies_contents : {book : List ℕ} → Shaped kind book → Every (Through f g h) (contents book)
      → contents (map_bodies kind' f book) ≡ contents book
  unfolding map_bodies number
  map_bodies_contents (shaped b c d {bs = bs} q) t = rest_contents _ bs q t

  pub map_bodies_form : {book : List ℕ} → Shaped kind book → Every (Through f g h) (contents book)
      → form_checks kind' (map_bodies kind' f book) ≡ form_checks kind book
  unfolding map_bodies number form_checks
  map_bodies_form (shaped b c d {bs = bs} q) t =
      rw (
        (rest_keeps _ bs q t).size ∙ sym q.size,
        rest_contents _ bs q t,
        eq-eqb kind kind refl,
        eq-eqb kind' kind' refl,
      )

  pub map_bodies_records : {book : List ℕ} → Shaped kind book → Every (Through f g h) (contents book)
      → records_check g (map_bodies kind' f book) ≡ records_check h book
  unfolding map_bodies number records_check
  map_bodies_records (shaped b c d {bs = bs} q) t = ap (check 11) (rest_sheets _ bs q t)

  -- f applied to the bodies, and then g, comes to h.
  pub map_bodies_through : {book : List ℕ} → Shaped kind book → Every (Through f g h) (contents book)
      → map_bodies kind g (map_bodies kind' f book) ≡ map_bodies kind h book
  unfolding map_bodies number
  map_bodies_through (shaped b c d {bs = bs} q) t = ap (λ (l : List ℕ). kind ∷ b ∷ c ∷ d ∷ l) (rest_through _ bs q t)

-- A book given its own kind, and its bodies as they are, is unchanged.
pub map_bodies_as_it_is : {kind : ℕ} {book : List ℕ} → Shaped kind book → map_bodies kind as_it_is book ≡ book
unfolding map_bodies number
map_bodies_as_it_is {kind} (shaped b c d {bs = bs} q) =
    let n : ℕ = from_digits 256 (c ∷ d ∷ []) in
    ap (λ (l : List ℕ). kind ∷ b ∷ c ∷ d ∷ l)
    (ap (λ (l : List ℕ). take (24 * n) bs ++ l)
    (each_as_it_is (pieces 24 n bs) (drop (24 * n) bs) (sized_drop (24 * n) _ q refl))
    ∙ take-append-drop (24 * n) bs)
