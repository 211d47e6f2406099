-- Laws for code that walks a book by offsets: numbers read at an offset, one entry, one body, one
-- block or one record taken off the start of what is left. Loops count down: n is what is left, at
-- the offset of the next piece.
use Rattle.std.specs.Prelude.{ℕ, zero, suc, ◌+◌, ◌-◌, ◌*◌, ◌≤◌, ◌<◌, Bool, ◌&&◌, List, [], ◌∷◌, ◌++◌, ◌≡◌, refl, length, get_or, set, take, drop}
use Rattle.std.proofs.Common.{append_assoc, sym, ap, ◌∙◌, add-zero, arith, length-drop, get_or-drop, take-add}
use Rattle.std.proofs.Math.Seq.{drop-drop}
use Rattle.clefia_spec.specs.Words.{from_digits, xors}
use Rattle.planbook_spec.specs.Book.{number, pieces, count, record_holds, all_records_hold, sheet_holds, sheet_count}
use Rattle.planbook_spec.specs.Book.{contents, bodies, record_count, each_body, sheets_hold, cbc_encrypt, cbc_decrypt}
use Rattle.planbook_spec.specs.Book.{map_bodies}

-- ---- numbers

-- A part of a part.
take_drop_take : {A : Type 0} (k i m : ℕ) (l : List A) → i + k ≤ m → take k (drop i (take m l)) ≡ take k (drop i l)
take_drop_take zero i m l h = refl
take_drop_take (suc k) zero zero l h = absurd (omega arith)
take_drop_take (suc k) zero (suc m) [] h = refl
take_drop_take (suc k) zero (suc m) (x ∷ l) h = ap {B = List _} (λ r. x ∷ r) (take_drop_take k zero m l (omega arith))
take_drop_take (suc k) (suc i) zero l h = absurd (omega arith)
take_drop_take (suc k) (suc i) (suc m) [] h = refl
take_drop_take (suc k) (suc i) (suc m) (x ∷ l) h = take_drop_take (suc k) i m l (omega arith)

-- A number of a piece of m bytes at an offset.
pub number_piece : (i k m at : ℕ) (bs : List ℕ) → i + k ≤ m → number i k (take m (drop at bs)) ≡ number (at + i) k bs
unfolding number
number_piece i k m at bs h = rw (take_drop_take k i m (drop at bs) h, drop-drop i at bs)

-- The first bytes, one by one.
take_two : (l : List ℕ) → 2 ≤ length l → take 2 l ≡ get_or l 0 0 ∷ get_or l 1 0 ∷ []
take_two [] h = absurd (omega arith)
take_two (a ∷ []) h = absurd (omega arith)
take_two (a ∷ b ∷ l) h = refl

from_two : (a b : ℕ) → from_digits 256 (a ∷ b ∷ []) ≡ a * 256 + b
unfolding from_digits
from_two a b = omega arith

first_at : (at : ℕ) (bs : List ℕ) → get_or (drop at bs) 0 0 ≡ get_or bs at 0
first_at at bs = get_or-drop at bs 0 0 ∙ ap (λ (i : ℕ). get_or bs i 0) (add-zero at)

byte_at : (at i : ℕ) (bs : List ℕ) → get_or (drop at bs) i 0 ≡ get_or bs (at + i) 0
byte_at at i bs = get_or-drop at bs i 0

pub number_two : (at : ℕ) (bs : List ℕ) → at + 2 ≤ length bs → number at 2 bs ≡ get_or bs at 0 * 256 + get_or bs
    (at + 1) 0
unfolding number
number_two at bs h = rw (take_two (drop at bs) (omega (arith, length-drop at bs)), first_at at bs, byte_at at 1 bs)
    (from_two _ _)

-- ---- pieces

suc_less : (n : ℕ) → suc n - 1 ≡ n
suc_less n = omega arith

pub pieces_next : (k n at : ℕ) (bs : List ℕ) → 0 < n
    → pieces k n (drop at bs) ≡ take k (drop at bs) ∷ pieces k (n - 1) (drop (at + k) bs)
unfolding pieces
pieces_next k zero at bs h = absurd (omega arith)
pieces_next k (suc n) at bs h = rw (suc_less n, drop-drop k at bs)

-- The records of one entry, added to the sum.
pub count_next : (n at : ℕ) (bs : List ℕ) → 0 < n
    → record_count (pieces 24 n (drop at bs))
    ≡ count (take 24 (drop at bs)) + record_count (pieces 24 (n - 1) (drop (at + 24) bs))
unfolding record_count
count_next n at bs left = rw (pieces_next 24 n at bs left)

-- The records of one body: the next one, of which it is known whether it holds, and the rest.
pub records_next : (e : List ℕ) (n at : ℕ) (bs : List ℕ) {t : Bool} → 0 < n → record_holds e (take 16 (drop at bs)) ≡ t
    → all_records_hold e (pieces 16 n (drop at bs)) ≡ (t && all_records_hold e (pieces 16 (n - 1) (drop (at + 16) bs)))
unfolding all_records_hold
records_next e n at bs left h = rw (pieces_next 16 n at bs left, h)

-- The bodies: n entries are left, the next at `from`, and its body at `at`.
module _ (f : List ℕ → List ℕ → List ℕ) (n from at : ℕ) (book : List ℕ) (left : 0 < n) where
  abbrev next_entry : List ℕ
  next_entry = take 24 (drop from book)

  abbrev next_body : List ℕ
  next_body = take (16 * count next_entry) (drop at book)

  pub body_next : each_body f (pieces 24 n (drop from book)) (drop at book)
      ≡ f next_entry next_body ++ each_body f (pieces 24 (n - 1) (drop (from + 24) book))
      (drop (at + 16 * count next_entry) book)
  unfolding each_body
  body_next = rw (pieces_next 24 n from book left, drop-drop (16 * count next_entry) at book)

  pub sheets_next : {t : Bool} → sheet_holds next_entry (f next_entry next_body) ≡ t
      → sheets_hold f (pieces 24 n (drop from book)) (drop at book)
      ≡ (t && sheets_hold f (pieces 24 (n - 1) (drop (from + 24) book)) (drop (at + 16 * count next_entry) book))
  unfolding sheets_hold
  sheets_next h = rw (pieces_next 24 n from book left, drop-drop (16 * count next_entry) at book, h)

-- ---- chains

-- One block after the encrypted block p, and the chain that follows it.
pub encrypt_next : (E : List ℕ → List ℕ) (n at : ℕ) (p bs : List ℕ) → 0 < n
    → cbc_encrypt E n p (drop at bs) ≡ E (xors p (take 16 (drop at bs)))
    ++ cbc_encrypt E (n - 1) (E (xors p (take 16 (drop at bs)))) (drop (at + 16) bs)
unfolding cbc_encrypt
encrypt_next E zero at p bs h = absurd (omega arith)
encrypt_next E (suc n) at p bs h = rw (suc_less n, drop-drop 16 at bs)

pub decrypt_next : (D : List ℕ → List ℕ) (n at : ℕ) (p bs : List ℕ) → 0 < n
    → cbc_decrypt D n p (drop at bs) ≡ xors p (D (take 16 (drop at bs)))
    ++ cbc_decrypt D (n - 1) (take 16 (drop at bs)) (drop (at + 16) bs)
unfolding cbc_decrypt
decrypt_next D zero at p bs h = absurd (omega arith)
decrypt_next D (suc n) at p bs h = rw (suc_less n, drop-drop 16 at bs)

-- ---- whole books

pub bodies_at : (book : List ℕ) → bodies book ≡ drop (4 + 24 * sheet_count book) book
bodies_at book = drop-drop (24 * sheet_count book) 4 book

-- The head and the contents in one: the first 4 + 24n bytes of the book, with another first byte.
pub map_bodies_front : (kind : ℕ) (f : List ℕ → List ℕ → List ℕ) (book : List ℕ) → 4 ≤ length book
    → map_bodies kind f book ≡ set (take (4 + 24 * sheet_count book) book) 0 kind
    ++ each_body f (contents book) (drop (4 + 24 * sheet_count book) book)
unfolding map_bodies
map_bodies_front kind f book h =
    rw (take-add 4 (24 * sheet_count book) book, ← bodies_at book)
    (sym (append_assoc (kind ∷ take 3 (drop 1 book)) (take (24 * sheet_count book) (drop 4 book)) _)
    ∙ ap (λ (l : List ℕ). l ++ each_body f (contents book) (bodies book)) (front book h))
  where
    front : (l : List ℕ) → 4 ≤ length l → kind ∷ take 3 (drop 1 l) ++ take (24 * sheet_count book) (drop 4 book)
        ≡ set (take 4 l ++ take (24 * sheet_count book) (drop 4 book)) 0 kind
    front [] k = absurd (omega arith)
    front (a ∷ l) k = refl
