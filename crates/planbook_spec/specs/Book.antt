-- The plan book: its bytes, what holds of them, the checks of a book, and books encrypted and
-- decrypted.
--
-- A book is a head of 4 bytes, then the contents, n entries of 24 bytes, then the bodies of the n
-- sheets in the order of the contents, with no gap. A body is records of 16 bytes, as many as its
-- entry says. An entry is its 24 bytes here and a record its 16, and the names below read numbers
-- out of them. Numbers are unsigned, highest byte first.
use Rattle.std.specs.Prelude.{ℕ, zero, suc, ◌+◌, ◌*◌, Bool, true, ◌&&◌, ◌||◌, List, [], ◌∷◌, ◌++◌, eqb, leb, ltb, length, get_or, take, drop}
use Rattle.clefia_spec.specs.Words.{choose, from_digits, xors}
use Rattle.clefia_spec.specs.Block.{encrypt_under, decrypt_under}
use Rattle.planbook_spec.specs.Outcome.{Outcome, accepted, Check, check, judged}
use Rattle.planbook_spec.specs.Checks.{output_check, words_from_bytes, words_and_way}

-- The number that k bytes write, from byte `at` on.
unfoldable pub number : ℕ → ℕ → List ℕ → ℕ
number at k bs = from_digits 256 (take k (drop at bs))

-- The first n pieces of k bytes each.
unfoldable pub pieces : ℕ → ℕ → List ℕ → List (List ℕ)
pieces k zero bs = []
pieces k (suc n) bs = take k bs ∷ pieces k n (drop k bs)

-- An entry of the contents: trial (4 bytes), count of records (2), number of replicates (1), a zero
-- byte, and the iv (16). (Document 01's term for the iv: start block.)
abbrev pub trial : List ℕ → ℕ
trial e = number 0 4 e

abbrev pub count : List ℕ → ℕ
count e = number 4 2 e

-- How many replicates the entry's trial has: byte 6, where 0 is read as 4. The books of past
-- seasons have 0 there, and four replicates.
unfoldable pub replicates : List ℕ → ℕ
replicates e = choose (eqb (get_or e 6 0) 0) 4 (get_or e 6 0)

abbrev pub iv : List ℕ → List ℕ
iv e = take 16 (drop 8 e)

-- What holds of an entry, given the trial of the entry before it, or 0 before the first: the trial
-- is above that, and so at least 1; there are 1 to 1024 records, and at most 8 replicates; byte 7
-- is zero. (Document 01 calls an entry that breaks this broken.)
unfoldable pub entry_holds : ℕ → List ℕ → Bool
entry_holds previous e = ltb previous (trial e) && leb 1
    (count e) && leb (count e) 1024 && leb (replicates e) 8 && eqb (get_or e 7 0) 0

unfoldable pub entries_hold : ℕ → List (List ℕ) → Bool
entries_hold previous [] = true
entries_hold previous (e ∷ es) = entry_holds previous e && entries_hold (trial e) es

-- A record: trial (4 bytes), entry (4), replicate (1), row (2), column (2), three zero bytes.
abbrev pub record_trial : List ℕ → ℕ
record_trial r = number 0 4 r

abbrev pub record_entry : List ℕ → ℕ
record_entry r = number 4 4 r

abbrev pub record_replicate : List ℕ → ℕ
record_replicate r = get_or r 8 0

abbrev pub record_row : List ℕ → ℕ
record_row r = number 9 2 r

abbrev pub record_column : List ℕ → ℕ
record_column r = number 11 2 r

-- What holds of a plot: row and column are both 0, which means reserve, a spare plant that has no
-- place yet, or both from 1 to 999. (Document 01 has any row and any column; document 02 puts this
-- rule in their place.)
unfoldable pub plot_holds : ℕ → ℕ → Bool
plot_holds row column = (eqb row 0 && eqb column 0) || (leb 1 row && leb row 999 && leb 1 column && leb column 999)

-- What holds of a record, given the entry e of its sheet: the trial is the sheet's, the entry at
-- least 1, the replicate from 1 to the sheet's number of replicates, row and column those of a
-- plot, and the last three bytes zero.
unfoldable pub record_holds : List ℕ → List ℕ → Bool
record_holds e r =
    eqb (record_trial r) (trial e)
    && leb 1 (record_entry r)
    && leb 1 (record_replicate r)
    && leb (record_replicate r) (replicates e)
    && plot_holds (record_row r) (record_column r)
    && eqb (number 13 3 r) 0

unfoldable pub all_records_hold : List ℕ → List (List ℕ) → Bool
all_records_hold e [] = true
all_records_hold e (r ∷ rs) = record_holds e r && all_records_hold e rs

-- Every record of a sheet's body holds.
abbrev pub sheet_holds : List ℕ → List ℕ → Bool
sheet_holds e body = all_records_hold e (pieces 16 (count e) body)

-- The head: the kind, 1 for a clear book or 2 for a sealed one (Document 01's terms); 0; the number
-- n of sheets in two bytes.
abbrev pub sheet_count : List ℕ → ℕ
sheet_count book = number 2 2 book

abbrev pub contents : List ℕ → List (List ℕ)
contents book = pieces 24 (sheet_count book) (drop 4 book)

-- All that follows the contents.
abbrev pub bodies : List ℕ → List ℕ
bodies book = drop (24 * sheet_count book) (drop 4 book)

-- R, the sum of the record counts.
unfoldable pub record_count : List (List ℕ) → ℕ
record_count [] = 0
record_count (e ∷ es) = count e + record_count es

-- Sheet i, counted from 0: its entry, and its body, which follows the records of the i sheets
-- before it.
abbrev pub sheet_entry : ℕ → List ℕ → List ℕ
sheet_entry i book = take 24 (drop (24 * i) (drop 4 book))

abbrev pub sheet_body : ℕ → List ℕ → List ℕ
sheet_body i book = take (16 * count (sheet_entry i book))
    (drop (16 * record_count (pieces 24 i (drop 4 book))) (bodies book))

-- Checks 5 to 10, of a book's form; kind is the first byte that the call permits.
unfoldable pub form_checks : ℕ → List ℕ → List Check
form_checks kind book =
    check 5 (leb 4 (length book) && leb (length book) 65532)
    ∷ check 6 (eqb (get_or book 0 0) kind && eqb (get_or book 1 0) 0)
    ∷ check 7 (leb (sheet_count book) 64)
    ∷ check 8 (leb (4 + 24 * sheet_count book) (length book))
    ∷ check 9 (entries_hold 0 (contents book))
    ∷ check 10 (eqb (length book) (4 + 24 * sheet_count book + 16 * record_count (contents book)))
    ∷ []

-- A function f of an entry and its body, applied to each body: es are the entries, bs their bodies
-- end to end.
unfoldable pub each_body : (List ℕ → List ℕ → List ℕ) → List (List ℕ) → List ℕ → List ℕ
each_body f [] bs = []
each_body f (e ∷ es) bs = f e (take (16 * count e) bs) ++ each_body f es (drop (16 * count e) bs)

-- Every record of every sheet holds, once its body has gone through f.
unfoldable pub sheets_hold : (List ℕ → List ℕ → List ℕ) → List (List ℕ) → List ℕ → Bool
sheets_hold f [] bs = true
sheets_hold f (e ∷ es) bs = sheet_holds e (f e (take (16 * count e) bs)) && sheets_hold f es (drop (16 * count e) bs)

-- Check 11: every clear record of a book holds. f makes a body clear: `as_it_is` in a clear book,
-- and in a sealed one the decryption of the body.
unfoldable pub records_check : (List ℕ → List ℕ → List ℕ) → List ℕ → Check
records_check f book = check 11 (sheets_hold f (contents book) (bodies book))

abbrev pub as_it_is : List ℕ → List ℕ → List ℕ
as_it_is e body = body

-- CBC (NIST SP 800-38A), over any function E that encrypts a block of 16 bytes and any D that
-- decrypts one: n blocks, given the encrypted block before them. Each block is added to the
-- encrypted one before it and then encrypted. (Document 01's terms: sealing and opening.)
unfoldable pub cbc_encrypt : (List ℕ → List ℕ) → ℕ → List ℕ → List ℕ → List ℕ
cbc_encrypt E zero previous bs = []
cbc_encrypt E (suc n) previous bs =
    let c : List ℕ = E (xors previous (take 16 bs)) in c ++ cbc_encrypt E n c (drop 16 bs)

unfoldable pub cbc_decrypt : (List ℕ → List ℕ) → ℕ → List ℕ → List ℕ → List ℕ
cbc_decrypt D zero previous bs = []
cbc_decrypt D (suc n) previous bs = xors previous (D (take 16 bs)) ++ cbc_decrypt D n (take 16 bs) (drop 16 bs)

-- A sheet's body: a chain of its own, which begins with the iv of its entry.
unfoldable pub encrypt_body : (List ℕ → List ℕ) → List ℕ → List ℕ → List ℕ
encrypt_body E e body = cbc_encrypt E (count e) (iv e) body

unfoldable pub decrypt_body : (List ℕ → List ℕ) → List ℕ → List ℕ → List ℕ
decrypt_body D e body = cbc_decrypt D (count e) (iv e) body

-- A book with another kind, the rest of its head and its contents as they were, and f applied to
-- each body in its place.
unfoldable pub map_bodies : ℕ → (List ℕ → List ℕ → List ℕ) → List ℕ → List ℕ
map_bodies kind f book = kind ∷ take 3 (drop 1 book)
    ++ (take (24 * sheet_count book) (drop 4 book) ++ each_body f (contents book) (bodies book))

-- Checks 5 to 11, which look at the book alone: a call may have check 4 before them or after them.
abbrev pub form_and_records : ℕ → (List ℕ → List ℕ → List ℕ) → List ℕ → List Check
form_and_records kind f book = form_checks kind book ++ (records_check f book ∷ [])

-- The checks of a call on a whole book: some list cs about words and way, then 4, and 5 to 11.
unfoldable pub book_checks : List Check → ℕ → (List ℕ → List ℕ → List ℕ) → List ℕ → List ℕ → List Check
book_checks cs kind f book out = cs ++ (output_check (length book) out ∷ form_and_records kind f book)

-- A book encrypted and decrypted by any E and D: the count is R. In a book to be decrypted, check
-- 11 looks at the records after the chain is undone.
unfoldable pub encrypt_book_by : List Check → (List ℕ → List ℕ) → List ℕ → List ℕ → Outcome
encrypt_book_by cs E book out =
    judged (book_checks cs 1 as_it_is book out)
    (accepted (record_count (contents book)) (map_bodies 2 (encrypt_body E) book))

unfoldable pub decrypt_book_by : List Check → (List ℕ → List ℕ) → List ℕ → List ℕ → Outcome
decrypt_book_by cs D book out =
    judged (book_checks cs 2 (decrypt_body D) book out)
    (accepted (record_count (contents book)) (map_bodies 1 (decrypt_body D) book))

-- The book that a clear book must become when it is sealed by E, the cipher under given words or
-- under a key; made from E and the clear book alone: it does not depend on the way. In each sheet
-- the first record, added to the iv, is encrypted by E, and each later record likewise, added to
-- the encrypted record before it.
unfoldable pub encrypted_book : (List ℕ → List ℕ) → List ℕ → List ℕ
encrypted_book E book = map_bodies 2 (encrypt_body E) book

-- The inverse.
unfoldable pub decrypted_book : (List ℕ → List ℕ) → List ℕ → List ℕ
decrypted_book D book = map_bodies 1 (decrypt_body D) book

-- A book encrypted and decrypted under words: checks 14, 2, 4, 5 to 10, 11; then R, and the book.
unfoldable pub encrypt_book_call : List ℕ → ℕ → List ℕ → List ℕ → Outcome
encrypt_book_call words way book out = encrypt_book_by (words_and_way words way)
    (encrypt_under (words_from_bytes words)) book out

unfoldable pub decrypt_book_call : List ℕ → ℕ → List ℕ → List ℕ → Outcome
decrypt_book_call words way book out = decrypt_book_by (words_and_way words way)
    (decrypt_under (words_from_bytes words)) book out
