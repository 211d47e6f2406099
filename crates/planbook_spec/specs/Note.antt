-- The note: counter mode (NIST SP 800-38A), and what the call for a note answers. Counter mode is
-- its own inverse, so one call both encrypts and decrypts a note. (Document 02's terms: seals and
-- opens it.)
use Rattle.std.specs.Prelude.{ℕ, zero, suc, ◌+◌, ◌/◌, ◌%◌, ◌^◌, List, [], ◌∷◌, ◌++◌, leb, length, take}
use Rattle.clefia_spec.specs.Words.{to_digits, xors}
use Rattle.clefia_spec.specs.Block.{encrypt_under}
use Rattle.planbook_spec.specs.Outcome.{Outcome, accepted, Check, check, judged}
use Rattle.planbook_spec.specs.Checks.{block_check, output_check, words_from_bytes, words_and_way}
use Rattle.planbook_spec.specs.Book.{number}

-- Counter block i of a note, from 0 on, where `counter` is the block that the caller gives. Its
-- first twelve bytes stay. The last four count blocks: the number that they write, the highest byte
-- first, is i higher, and after ffffffff it goes on at zero.
unfoldable pub counter_block : List ℕ → ℕ → List ℕ
counter_block counter i = take 12 counter ++ to_digits 256 4 ((number 12 4 counter + i) % 2 ^ 32)

-- The counter blocks from i on, n of them, each encrypted by E, end to end.
unfoldable pub keystream : (List ℕ → List ℕ) → List ℕ → ℕ → ℕ → List ℕ
keystream E counter i zero = []
keystream E counter i (suc n) = E (counter_block counter i) ++ keystream E counter (i + 1) n

-- How many blocks a note takes. The last one may be a part.
unfoldable pub block_count : List ℕ → ℕ
block_count note = (length note + 15) / 16

-- Counter mode over any function E that encrypts a block of 16 bytes: the encrypted counter blocks
-- are added to the note. What the last one has more than the note is dropped (`xors` gives as many
-- bytes as the note has), so that a part block uses its leading bytes.
unfoldable pub ctr : (List ℕ → List ℕ) → List ℕ → List ℕ → List ℕ
ctr E counter note = xors (keystream E counter 0 (block_count note)) note

-- Check 12: a note has at most 16,384 bytes.
unfoldable pub note_check : List ℕ → Check
note_check note = check 12 (leb (length note) 16384)

-- The checks of the call: some list cs about words and way, then 3 of the counter block, 4 and 12.
unfoldable pub note_checks : List Check → List ℕ → List ℕ → List ℕ → List Check
note_checks cs counter note out = cs ++ (block_check counter ∷ output_check (length note) out ∷ note_check note ∷ [])

-- A note encrypted or decrypted by any E: the count is that of its bytes.
unfoldable pub crypt_note_by : List Check → (List ℕ → List ℕ) → List ℕ → List ℕ → List ℕ → Outcome
crypt_note_by cs E counter note out = judged (note_checks cs counter note out)
    (accepted (length note) (ctr E counter note))

-- Under words: checks 14, 2, 3, 4, 12.
unfoldable pub crypt_note_call : List ℕ → ℕ → List ℕ → List ℕ → List ℕ → Outcome
crypt_note_call words way counter note out =
    crypt_note_by (words_and_way words way) (encrypt_under (words_from_bytes words)) counter note out
