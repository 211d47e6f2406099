-- A book as its sheets: the list of the sheets of a book, each an entry with its body, and the book
-- that such a list makes.
use Rattle.std.specs.Prelude.{ℕ, ◌*◌, List, [], ◌∷◌, ◌++◌, length, take, drop}
use Rattle.clefia_spec.specs.Words.{to_digits}
use Rattle.planbook_spec.specs.Book.{count, contents, bodies}

-- A sheet whole: the 24 bytes of its entry, and its body.
pub record WholeSheet : Type 0 where
  pub entry : List ℕ
  pub body : List ℕ

-- The sheets with these entries, whose bodies are end to end in bs.
unfoldable pub sheets_from : List (List ℕ) → List ℕ → List WholeSheet
sheets_from [] bs = []
sheets_from (e ∷ es) bs = record { entry = e; body = take (16 * count e) bs } ∷ sheets_from es (drop (16 * count e) bs)

-- The sheets of a book, in the order of its contents.
abbrev pub sheets_of : List ℕ → List WholeSheet
sheets_of book = sheets_from (contents book) (bodies book)

-- The entries of sheets end to end, and their bodies.
unfoldable pub join_entries : List WholeSheet → List ℕ
join_entries [] = []
join_entries (s ∷ ss) = s.entry ++ join_entries ss

unfoldable pub join_bodies : List WholeSheet → List ℕ
join_bodies [] = []
join_bodies (s ∷ ss) = s.body ++ join_bodies ss

-- The book that sheets make: head, contents and bodies; kind is its first byte.
unfoldable pub book_of : ℕ → List WholeSheet → List ℕ
book_of kind ss = kind ∷ 0 ∷ to_digits 256 2 (length ss) ++ (join_entries ss ++ join_bodies ss)

-- A sheet with f applied to its body; its entry stays.
abbrev pub on_body : (List ℕ → List ℕ → List ℕ) → WholeSheet → WholeSheet
on_body f s = record { entry = s.entry; body = f s.entry s.body }
