-- Checks 1 to 4 and 14, and what the calls for constants, expanded keys and single blocks answer.
-- Numbers are compared whole, of whatever size. The way (Document 01's term) is 1 by byte tables, 2
-- by word tables, 3 worked out from the rules. It is in check 2 and nowhere else: no result depends
-- on it. An argument `out` is the given output at entry; of its bytes only the number matters.
use Rattle.std.specs.Prelude.{ℕ, ◌*◌, ◌/◌, ◌||◌, List, [], ◌∷◌, ◌++◌, eqb, length}
use Rattle.clefia_spec.specs.Words.{bytes_of, words_of, by_key_length}
use Rattle.clefia_spec.specs.Constants.{constants}
use Rattle.clefia_spec.specs.KeySchedule.{expand_key}
use Rattle.clefia_spec.specs.Block.{encrypt_under, decrypt_under}
use Rattle.planbook_spec.specs.Outcome.{Outcome, accepted, Check, check, judged}

-- Check 1: a key has 16, 24 or 32 bytes.
unfoldable pub key_check : ℕ → Check
key_check keyLength = check 1 (eqb keyLength 16 || eqb keyLength 24 || eqb keyLength 32)

-- Check 2: the way is 1, 2 or 3.
unfoldable pub way_check : ℕ → Check
way_check way = check 2 (eqb way 1 || eqb way 2 || eqb way 3)

-- Check 3: a block has 16 bytes.
unfoldable pub block_check : List ℕ → Check
block_check block = check 3 (eqb (length block) 16)

-- Check 4: the given output has exactly n bytes.
unfoldable pub output_check : ℕ → List ℕ → Check
output_check n out = check 4 (eqb (length out) n)

-- Check 14: the words, an expanded key given as bytes, four to a word, are 40, 48 or 56. Only their
-- count is checked: words that no key gives are permitted.
unfoldable pub words_check : ℕ → Check
words_check byte_count = check 14 (eqb byte_count 160 || eqb byte_count 192 || eqb byte_count 224)

-- The words that such bytes write, the highest byte first.
unfoldable pub words_from_bytes : List ℕ → List ℕ
words_from_bytes words = words_of (length words / 4) words

-- Checks 1 and 2, with which the call that takes a key begins; and 14 and 2, with which every call
-- that takes words begins.
abbrev pub key_and_way : List ℕ → ℕ → List Check
key_and_way key way = key_check (length key) ∷ way_check way ∷ []

abbrev pub words_and_way : List ℕ → ℕ → List Check
words_and_way words way = words_check (length words) ∷ way_check way ∷ []

-- How many words the constants and the expanded key have, by key length. In an output each word is
-- four bytes, highest first.
unfoldable pub constant_count : ℕ → ℕ
constant_count keyLength = by_key_length keyLength 60 84 92

unfoldable pub expanded_count : ℕ → ℕ
expanded_count keyLength = by_key_length keyLength 40 48 56

-- The constants of a key length: checks 1, 4; then the count of words, and their bytes.
unfoldable pub constants_call : ℕ → List ℕ → Outcome
constants_call keyLength out =
    judged (key_check keyLength ∷ output_check (4 * constant_count keyLength) out ∷ [])
    (accepted (constant_count keyLength) (bytes_of (constants keyLength)))

-- A key expanded: checks 1, 2, 4; then the count of words, and their bytes. (Document 01's term:
-- prepared.)
unfoldable pub expand_key_call : List ℕ → ℕ → List ℕ → Outcome
expand_key_call key way out =
    judged (key_and_way key way ++ (output_check (4 * expanded_count (length key)) out ∷ []))
    (accepted (expanded_count (length key)) (bytes_of (expand_key key)))

-- The checks of a call that encrypts or decrypts one block: some list cs about words and way, then
-- 3, 4.
unfoldable pub block_checks : List Check → List ℕ → List ℕ → List Check
block_checks cs block out = cs ++ (block_check block ∷ output_check 16 out ∷ [])

-- One block encrypted and decrypted under words: checks 14, 2, 3, 4; the count is 1. (Document 01's
-- terms: sealed and opened.)
unfoldable pub encrypt_block_call : List ℕ → ℕ → List ℕ → List ℕ → Outcome
encrypt_block_call words way block out = judged (block_checks (words_and_way words way) block out)
    (accepted 1 (encrypt_under (words_from_bytes words) block))

unfoldable pub decrypt_block_call : List ℕ → ℕ → List ℕ → List ℕ → Outcome
decrypt_block_call words way block out = judged (block_checks (words_and_way words way) block out)
    (accepted 1 (decrypt_under (words_from_bytes words) block))
