-- Computed cases of the definitions: the edges of the checks, and a book of two sheets under a toy
-- cipher. No theorem of the demands reveals a slip that both calls share, such as one chain that
-- runs on through all sheets, or a check that lets too much through; these cases do.
use Rattle.std.specs.Prelude.{ℕ, zero, suc, ◌+◌, ◌*◌, ◌^◌, List, [], ◌∷◌, ◌++◌, refl, take, drop, set, replicate}
use Rattle.std.proofs.lemmas.List.Edits.{sets}
use Rattle.clefia_spec.specs.Words.{from_digits, to_digits, numbers_of, xors}
use Rattle.clefia_spec.specs.Cases.{Case, ◌gives◌, AllHold, all_same, computed}
use Rattle.planbook_spec.specs.Outcome.{answer, after, judged}
use Rattle.planbook_spec.specs.Checks.{key_check, way_check, block_check, output_check, words_check, words_from_bytes}
use Rattle.planbook_spec.specs.Checks.{constant_count, expanded_count, constants_call, expand_key_call, block_checks}
use Rattle.planbook_spec.specs.Checks.{encrypt_block_call, decrypt_block_call}
use Rattle.planbook_spec.specs.Book.{number, pieces, replicates, entry_holds, entries_hold, plot_holds, record_holds}
use Rattle.planbook_spec.specs.Book.{all_records_hold, record_count, form_checks, each_body, sheets_hold, records_check}
use Rattle.planbook_spec.specs.Book.{cbc_encrypt, cbc_decrypt, encrypt_body, decrypt_body, map_bodies, book_checks}
use Rattle.planbook_spec.specs.Book.{encrypt_book_by, decrypt_book_by, encrypt_book_call, decrypt_book_call}

-- The toy cipher: the bytes of a block rotated by one place.
abbrev pub toy_encrypt : List ℕ → List ℕ
toy_encrypt x = drop 1 x ++ take 1 x

abbrev pub toy_decrypt : List ℕ → List ℕ
toy_decrypt x = drop 15 x ++ take 15 x

-- The answers of the two calls, with an output of the right length.
abbrev pub encrypting : List ℕ → ℕ
encrypting book = answer (encrypt_book_by [] toy_encrypt book book)

abbrev pub decrypting : List ℕ → ℕ
decrypting book = answer (decrypt_book_by [] toy_decrypt book book)

-- n numbers from v on: an iv whose bytes all differ.
unfoldable pub rising : ℕ → ℕ → List ℕ
rising zero v = []
rising (suc n) v = v ∷ rising n (v + 1)

abbrev pub entry_with : ℕ → ℕ → ℕ → List ℕ
entry_with t n v = 0 ∷ 0 ∷ 0 ∷ t ∷ 0 ∷ n ∷ 0 ∷ 0 ∷ rising 16 v

-- A clear book of one record: trial 41, entry 7, replicate 2, in reserve. The entry is at byte 4,
-- the record at byte 28.
abbrev pub small : List ℕ
small = 1 ∷ 0 ∷ 0 ∷ 1 ∷ entry_with 41 1 0x10 ++ (0 ∷ 0 ∷ 0 ∷ 41 ∷ 0 ∷ 0 ∷ 0 ∷ 7 ∷ 2 ∷ replicate 7 0)

-- The same book with b in byte 6 of its entry, the number of replicates, and replicate r in its
-- record.
abbrev pub replicated : ℕ → ℕ → List ℕ
replicated b r = set (set small 10 b) 36 r

-- What it is encrypted to.
abbrev pub encrypted_small : List ℕ
encrypted_small =
    2 ∷ 0 ∷ 0 ∷ 1 ∷ entry_with 41 1 0x10
    ++ (0x11 ∷ 0x12 ∷ 0x3a ∷ 0x14 ∷ 0x15 ∷ 0x16 ∷ 0x10 ∷ 0x1a ∷ 0x19 ∷ 0x1a ∷ 0x1b ∷ 0x1c ∷ 0x1d ∷ 0x1e ∷ 0x1f ∷ 0x10
    ∷ [])

-- The four bytes of a row and a column. They are at 37 in the clear book and, each added to its
-- byte of the iv, at 36 in the encrypted one: the toy rotates.
abbrev pub plot : ℕ → ℕ → List ℕ
plot row column = to_digits 256 2 row ++ to_digits 256 2 column

-- What both calls answer to the book with this plot.
abbrev pub plot_answers : ℕ → ℕ → List ℕ
plot_answers row column =
    encrypting (sets small 37 (plot row column))
    ∷ decrypting (sets encrypted_small 36 (xors (plot row column) (0x19 ∷ 0x1a ∷ 0x1b ∷ 0x1c ∷ [])))
    ∷ []

-- A clear book of two sheets, of two records and of one: entries at bytes 4 and 28, records at 52,
-- 68 and 84.
abbrev pub two_entries : List ℕ
two_entries = entry_with 41 2 0x10 ++ entry_with 42 1 0x20

abbrev pub large : List ℕ
large =
    1 ∷ 0 ∷ 0 ∷ 2 ∷ two_entries
    ++ (0 ∷ 0 ∷ 0 ∷ 0x29 ∷ 0 ∷ 0 ∷ 0 ∷ 7 ∷ 2 ∷ 0 ∷ 0x0c ∷ 0 ∷ 3 ∷ 0 ∷ 0 ∷ 0 ∷ [])
    ++ (0 ∷ 0 ∷ 0 ∷ 0x29 ∷ 0 ∷ 0 ∷ 0 ∷ 8 ∷ 4 ∷ 3 ∷ 0xe7 ∷ 3 ∷ 0xe7 ∷ 0 ∷ 0 ∷ 0 ∷ [])
    ++ (0 ∷ 0 ∷ 0 ∷ 0x2a ∷ 0 ∷ 0 ∷ 0 ∷ 7 ∷ 1 ∷ 0 ∷ 0 ∷ 0 ∷ 0 ∷ 0 ∷ 0 ∷ 0 ∷ [])

-- What it is encrypted to. The second record is added to the first encrypted one; the third, in a
-- sheet of its own, to its own iv.
abbrev pub encrypted_large : List ℕ
encrypted_large =
    2 ∷ 0 ∷ 0 ∷ 2 ∷ two_entries
    ++ (0x11 ∷ 0x12 ∷ 0x3a ∷ 0x14 ∷ 0x15 ∷ 0x16 ∷ 0x10 ∷ 0x1a ∷ 0x19 ∷ 0x16 ∷ 0x1b ∷ 0x1f ∷ 0x1d ∷ 0x1e ∷ 0x1f ∷ 0x10
    ∷ [])
    ++ (0x12 ∷ 0x3a ∷ 0x3d ∷ 0x15 ∷ 0x16 ∷ 0x10 ∷ 0x12 ∷ 0x1d ∷ 0x15 ∷ 0xfc ∷ 0x1c ∷ 0xfa ∷ 0x1e ∷ 0x1f ∷ 0x10 ∷ 0x11
    ∷ [])
    ++ (0x21 ∷ 0x22 ∷ 0x09 ∷ 0x24 ∷ 0x25 ∷ 0x26 ∷ 0x20 ∷ 0x29 ∷ 0x29 ∷ 0x2a ∷ 0x2b ∷ 0x2c ∷ 0x2d ∷ 0x2e ∷ 0x2f ∷ 0x20
    ∷ [])

pub book_cases : List Case
book_cases =
    (encrypting large ∷ after large (encrypt_book_by [] toy_encrypt large large) gives 3 ∷ encrypted_large)
    ∷ (decrypting encrypted_large ∷ after encrypted_large
    (decrypt_book_by [] toy_decrypt encrypted_large encrypted_large) gives 3 ∷ large)
    -- check 5: three bytes; one byte too many
    ∷ (encrypting (1 ∷ 0 ∷ 0 ∷ []) ∷ [] gives 5 * 2 ^ 32 ∷ [])
    ∷ (encrypting (replicate 65533 1) ∷ [] gives 5 * 2 ^ 32 ∷ [])
    -- 65,532 bytes pass check 5
    ∷ (encrypting (replicate 65532 1) ∷ [] gives 6 * 2 ^ 32 ∷ [])
    -- check 6: the first byte, the second; and before 7
    ∷ (encrypting (set small 0 2) ∷ [] gives 6 * 2 ^ 32 ∷ [])
    ∷ (encrypting (set small 1 1) ∷ [] gives 6 * 2 ^ 32 ∷ [])
    ∷ (encrypting (set (set small 0 2) 3 65) ∷ [] gives 6 * 2 ^ 32 ∷ [])
    -- check 7: 65 sheets; 257 sheets
    ∷ (encrypting (set small 3 65) ∷ [] gives 7 * 2 ^ 32 ∷ [])
    ∷ (encrypting (set small 2 1) ∷ [] gives 7 * 2 ^ 32 ∷ [])
    -- check 8: 64 sheets pass 7, and their contents are not there
    ∷ (encrypting (set small 3 64) ∷ [] gives 8 * 2 ^ 32 ∷ [])
    ∷ (encrypting (take 27 small) ∷ [] gives 8 * 2 ^ 32 ∷ [])
    -- check 9: trial 0; no record; 1025 records; byte 7; trials that do not rise
    ∷ (encrypting (set small 7 0) ∷ [] gives 9 * 2 ^ 32 ∷ [])
    ∷ (encrypting (set small 9 0) ∷ [] gives 9 * 2 ^ 32 ∷ [])
    ∷ (encrypting (set (set small 8 4) 9 1) ∷ [] gives 9 * 2 ^ 32 ∷ [])
    ∷ (encrypting (set small 11 1) ∷ [] gives 9 * 2 ^ 32 ∷ [])
    ∷ (encrypting (set large 31 41) ∷ [] gives 9 * 2 ^ 32 ∷ [])
    -- check 10: the contents are there, to the byte, and the body is not; 1024 records pass 9, and
    -- are not there; a byte too few; a byte too many
    ∷ (encrypting (take 28 small) ∷ [] gives 10 * 2 ^ 32 ∷ [])
    ∷ (encrypting (set (set small 8 4) 9 0) ∷ [] gives 10 * 2 ^ 32 ∷ [])
    ∷ (encrypting (take 43 small) ∷ [] gives 10 * 2 ^ 32 ∷ [])
    ∷ (encrypting (small ++ (0 ∷ [])) ∷ [] gives 10 * 2 ^ 32 ∷ [])
    -- 10 comes before 11
    ∷ (encrypting (set (take 43 small) 35 0) ∷ [] gives 10 * 2 ^ 32 ∷ [])
    -- check 11: a trial above its sheet's, below it, and one that differs in its first byte; entry
    -- 0; replicate 0; each of the three zero bytes; the second record of a sheet, and the last of
    -- two sheets
    ∷ (encrypting (set small 31 42) ∷ [] gives 11 * 2 ^ 32 ∷ [])
    ∷ (encrypting (set small 31 40) ∷ [] gives 11 * 2 ^ 32 ∷ [])
    ∷ (encrypting (set small 28 1) ∷ [] gives 11 * 2 ^ 32 ∷ [])
    ∷ (encrypting (set small 35 0) ∷ [] gives 11 * 2 ^ 32 ∷ [])
    ∷ (encrypting (set small 36 0) ∷ [] gives 11 * 2 ^ 32 ∷ [])
    ∷ (encrypting (set small 41 1) ∷ [] gives 11 * 2 ^ 32 ∷ [])
    ∷ (encrypting (set small 42 1) ∷ [] gives 11 * 2 ^ 32 ∷ [])
    ∷ (encrypting (set small 43 1) ∷ [] gives 11 * 2 ^ 32 ∷ [])
    ∷ (encrypting (set large 76 0) ∷ [] gives 11 * 2 ^ 32 ∷ [])
    ∷ (encrypting (set large 92 0) ∷ [] gives 11 * 2 ^ 32 ∷ [])
    -- accepted: trial 1; entry 1, and one that has its first byte alone; a trial that has its first
    -- byte alone; the highest trial and entry
    ∷ (encrypting (set (set small 7 1) 31 1) ∷ [] gives 1 ∷ [])
    ∷ (encrypting (set small 35 1) ∷ [] gives 1 ∷ [])
    ∷ (encrypting (sets small 32 (1 ∷ 0 ∷ 0 ∷ 0 ∷ [])) ∷ [] gives 1 ∷ [])
    ∷ (encrypting (sets (sets small 28 (1 ∷ 0 ∷ 0 ∷ 0 ∷ [])) 4 (1 ∷ 0 ∷ 0 ∷ 0 ∷ [])) ∷ [] gives 1 ∷ [])
    ∷ (encrypting (sets (sets small 28 (replicate 8 255)) 4 (replicate 4 255)) ∷ [] gives 1 ∷ [])
    -- byte 6 of an entry: 0, 1, 4 and 8 are accepted; 9 and 255 are not, and 9 comes before 11
    ∷ (encrypting (replicated 0 1) ∷ encrypting (replicated 1 1) ∷ encrypting (replicated 4 1)
    ∷ encrypting (replicated 8 1) ∷ [] gives 1 ∷ 1 ∷ 1 ∷ 1 ∷ [])
    ∷ (encrypting (replicated 9 1) ∷ encrypting (replicated 255 1) ∷ encrypting (replicated 9 0) ∷ [] gives 9 * 2 ^ 32
    ∷ 9 * 2 ^ 32 ∷ 9 * 2 ^ 32 ∷ [])
    -- the greatest replicate, and one more: under 0, 4, 5, 8 and 1; and 4 under 5
    ∷ (encrypting (replicated 0 4) ∷ encrypting (replicated 0 5) ∷ [] gives 1 ∷ 11 * 2 ^ 32 ∷ [])
    ∷ (encrypting (replicated 4 4) ∷ encrypting (replicated 4 5) ∷ [] gives 1 ∷ 11 * 2 ^ 32 ∷ [])
    ∷ (encrypting (replicated 5 5) ∷ encrypting (replicated 5 6) ∷ encrypting (replicated 5 4) ∷ [] gives 1
    ∷ 11 * 2 ^ 32 ∷ 1 ∷ [])
    ∷ (encrypting (replicated 8 8) ∷ encrypting (replicated 8 9) ∷ [] gives 1 ∷ 11 * 2 ^ 32 ∷ [])
    ∷ (encrypting (replicated 1 2) ∷ [] gives 11 * 2 ^ 32 ∷ [])
    -- replicate 5 in the second sheet: its own number counts, and not that of the first
    ∷ (encrypting (set (set large 10 5) 92 5) ∷ encrypting (set (set large 34 5) 92 5) ∷ [] gives 11 * 2 ^ 32 ∷ 3 ∷ [])
    -- 0 and 4 in byte 6 are two books, and in what they become that byte alone differs
    ∷ (encrypting (set large 10 4) ∷ after large (encrypt_book_by [] toy_encrypt (set large 10 4) large) gives 3
    ∷ set encrypted_large 10 4)
    ∷ (decrypting (set encrypted_large 10 4) ∷ after large
    (decrypt_book_by [] toy_decrypt (set encrypted_large 10 4) large) gives 3 ∷ set large 10 4)
    -- row and column, encrypting and decrypting: accepted; one of the two 0; one or both beyond 999
    ∷ (plot_answers 0 0 ++ plot_answers 1 1 ++ plot_answers 999 999 ++ plot_answers 1 999
    ++ plot_answers 999 1 gives replicate 10 1)
    ∷ (plot_answers 256 1 ++ plot_answers 1 256 gives replicate 4 1)
    ∷ (plot_answers 0 1 ++ plot_answers 1 0 ++ plot_answers 999 0 ++ plot_answers 0 999 ++ plot_answers 256 0
    ++ plot_answers 0 256 gives replicate 12 (11 * 2 ^ 32))
    ∷ (plot_answers 0 1000 ++ plot_answers 1000 0 ++ plot_answers 1000 1 ++ plot_answers 1 1000
    ++ plot_answers 1000 1000 gives replicate 10 (11 * 2 ^ 32))
    ∷ (plot_answers 1025 1 ++ plot_answers 1 1025 ++ plot_answers 65535 65535 gives replicate 6 (11 * 2 ^ 32))
    -- 4 comes before 5
    ∷ (answer (encrypt_book_by [] toy_encrypt (1 ∷ 0 ∷ 0 ∷ []) (replicate 4 0)) ∷ [] gives 4 * 2 ^ 32 ∷ [])
    -- decrypting: a clear book; clear records in a book of the sealed kind; replicate 5, and 4,
    -- once the chain is undone
    ∷ (decrypting (set encrypted_large 0 1) ∷ [] gives 6 * 2 ^ 32 ∷ [])
    ∷ (decrypting (set large 0 2) ∷ [] gives 11 * 2 ^ 32 ∷ [])
    ∷ (decrypting (set encrypted_large 91 0x2d) ∷ [] gives 11 * 2 ^ 32 ∷ [])
    ∷ (decrypting (set encrypted_large 91 0x2c) ∷ [] gives 3 ∷ [])
    -- decrypting: replicate 5 where the first sheet has five, and where its own has; 8 and 9 where
    -- its own has eight; 9 in byte 6
    ∷ (decrypting (set (set encrypted_large 10 5) 91 0x2d) ∷ decrypting (set (set encrypted_large 34 5) 91 0x2d)
    ∷ [] gives 11 * 2 ^ 32 ∷ 3 ∷ [])
    ∷ (decrypting (set (set encrypted_large 34 8) 91 0x20) ∷ decrypting (set (set encrypted_large 34 8) 91 0x21)
    ∷ [] gives 3 ∷ 11 * 2 ^ 32 ∷ [])
    ∷ (decrypting (set encrypted_large 34 9) ∷ [] gives 9 * 2 ^ 32 ∷ [])
    ∷ []

pub book_cases_hold : AllHold book_cases
unfolding book_cases rising all_same from_digits to_digits xors answer after judged output_check number pieces
    replicates entry_holds entries_hold plot_holds record_holds all_records_hold record_count form_checks each_body
    sheets_hold records_check cbc_encrypt cbc_decrypt encrypt_body decrypt_body map_bodies book_checks encrypt_book_by
    decrypt_book_by
book_cases_hold = computed book_cases refl

-- What both calls for a block answer under words of w bytes, by a way, to a block of n bytes with
-- an output of m; and both calls for a book, to one of n.
abbrev pub block_answers : ℕ → ℕ → ℕ → ℕ → List ℕ
block_answers w way n m =
    answer (encrypt_block_call (replicate w 0) way (replicate n 0) (replicate m 0))
    ∷ answer (decrypt_block_call (replicate w 0) way (replicate n 0) (replicate m 0))
    ∷ []

abbrev pub book_answers : ℕ → ℕ → ℕ → ℕ → List ℕ
book_answers w way n m =
    answer (encrypt_book_call (replicate w 0) way (replicate n 0) (replicate m 0))
    ∷ answer (decrypt_book_call (replicate w 0) way (replicate n 0) (replicate m 0))
    ∷ []

-- What both calls for a block answer under words of each of these lengths.
unfoldable pub lengths_answers : List ℕ → List ℕ
lengths_answers [] = []
lengths_answers (w ∷ ws) = block_answers w 1 16 16 ++ lengths_answers ws

-- Checks 1 to 5 and 14, most with two or more that fail at once, and the counts.
pub call_cases : List Case
call_cases =
    -- constants: 1, 4
    (answer (constants_call 128 (replicate 240 0)) ∷ [] gives 1 * 2 ^ 32 ∷ [])
    ∷ (answer (constants_call 17 []) ∷ [] gives 1 * 2 ^ 32 ∷ [])
    ∷ (answer (constants_call 16 (replicate 60 0)) ∷ [] gives 4 * 2 ^ 32 ∷ [])
    ∷ (answer (constants_call 24 (replicate 240 0)) ∷ [] gives 4 * 2 ^ 32 ∷ [])
    ∷ (answer (constants_call 32 (replicate 336 0)) ∷ [] gives 4 * 2 ^ 32 ∷ [])
    -- keys: 1, 2, 4
    ∷ (answer (expand_key_call (replicate 15 0) 4 []) ∷ [] gives 1 * 2 ^ 32 ∷ [])
    ∷ (answer (expand_key_call (replicate 17 0) 1 (replicate 160 0)) ∷ [] gives 1 * 2 ^ 32 ∷ [])
    ∷ (answer (expand_key_call (replicate 16 0) 0 []) ∷ [] gives 2 * 2 ^ 32 ∷ [])
    ∷ (answer (expand_key_call (replicate 16 0) 257 (replicate 160 0)) ∷ [] gives 2 * 2 ^ 32 ∷ [])
    ∷ (answer (expand_key_call (replicate 16 0) (2 ^ 32 + 1) (replicate 160 0)) ∷ [] gives 2 * 2 ^ 32 ∷ [])
    ∷ (answer (expand_key_call (replicate 16 0) 3 (replicate 40 0)) ∷ [] gives 4 * 2 ^ 32 ∷ [])
    ∷ (answer (expand_key_call (replicate 24 0) 3 (replicate 160 0)) ∷ [] gives 4 * 2 ^ 32 ∷ [])
    ∷ (answer (expand_key_call (replicate 32 0) 3 (replicate 192 0)) ∷ [] gives 4 * 2 ^ 32 ∷ [])
    -- words, the highest byte first, as many as there are; check 14: the lengths of keys, the
    -- counts of words, one byte off each permitted length, whole words between them, and a length
    -- that is permitted if cut to eight bits; and the three permitted ones
    ∷ (words_from_bytes (rising 12 1) gives 0x01020304 ∷ 0x05060708 ∷ 0x090a0b0c ∷ [])
    ∷ (lengths_answers (0 ∷ 16 ∷ 24 ∷ 32 ∷ 40 ∷ 48 ∷ 56 ∷ 159 ∷ 161 ∷ 176 ∷ 191 ∷ 193 ∷ 208 ∷ 223 ∷ 225 ∷ 416
    ∷ []) gives replicate 32 (14 * 2 ^ 32))
    ∷ (lengths_answers (160 ∷ 192 ∷ 224 ∷ []) gives replicate 6 1)
    -- blocks: 14, 2, 3, 4
    ∷ (block_answers 161 4 15 15 ++ block_answers 0 1 15 16 ++ block_answers 225 2 16 17 gives
    replicate 6 (14 * 2 ^ 32))
    ∷ (block_answers 160 4 15 15 ++ block_answers 192 0 16 15 gives replicate 4 (2 * 2 ^ 32))
    ∷ (block_answers 160 3 15 15 ++ block_answers 224 3 17 16 gives replicate 4 (3 * 2 ^ 32))
    ∷ (block_answers 160 3 16 17 ++ block_answers 192 1 16 15 gives replicate 4 (4 * 2 ^ 32))
    -- accepted, with the count: each key length or count of words, and each way
    ∷ (answer (constants_call 16 (replicate 240 0)) ∷ answer (constants_call 24 (replicate 336 0))
    ∷ answer (constants_call 32 (replicate 368 0)) ∷ [] gives 60 ∷ 84 ∷ 92 ∷ [])
    ∷ (answer (expand_key_call (replicate 16 0) 1 (replicate 160 0))
    ∷ answer (expand_key_call (replicate 24 0) 2 (replicate 192 0))
    ∷ answer (expand_key_call (replicate 32 0) 3 (replicate 224 0)) ∷ [] gives 40 ∷ 48 ∷ 56 ∷ [])
    ∷ (block_answers 160 1 16 16 ++ block_answers 192 2 16 16 ++ block_answers 224 3 16 16 gives replicate 6 1)
    -- books: 14, 2, 4, 5
    ∷ (book_answers 32 4 0 4 ++ book_answers 161 1 0 4 ++ book_answers 223 1 0 0 gives replicate 6 (14 * 2 ^ 32))
    ∷ (book_answers 224 4 0 4 ++ book_answers 160 0 0 0 gives replicate 4 (2 * 2 ^ 32))
    ∷ (book_answers 224 1 0 4 ++ book_answers 192 2 4 3 gives replicate 4 (4 * 2 ^ 32))
    ∷ (book_answers 224 1 0 0 ++ book_answers 160 3 3 3 gives replicate 4 (5 * 2 ^ 32))
    ∷ []

pub call_cases_hold : AllHold call_cases
unfolding call_cases rising lengths_answers all_same from_digits numbers_of answer judged key_check way_check
    block_check output_check words_check words_from_bytes constant_count expanded_count constants_call expand_key_call
    block_checks encrypt_block_call decrypt_block_call form_checks book_checks encrypt_book_by decrypt_book_by
    encrypt_book_call decrypt_book_call
call_cases_hold = computed call_cases refl
