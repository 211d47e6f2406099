-- Computed cases: notes under the toy cipher of AnswerCases, worked out by hand, and the edges of
-- the call's checks. That a note comes back does not reveal a slip in the counter, since both
-- directions share it; these cases do.
use Rattle.std.specs.Prelude.{ℕ, ◌*◌, ◌^◌, List, [], ◌∷◌, ◌++◌, refl, take, replicate}
use Rattle.clefia_spec.specs.Words.{from_digits, to_digits, xors}
use Rattle.clefia_spec.specs.Cases.{Case, ◌gives◌, AllHold, all_same, computed}
use Rattle.planbook_spec.specs.Outcome.{answer, after, judged}
use Rattle.planbook_spec.specs.Checks.{way_check, block_check, output_check, words_check}
use Rattle.planbook_spec.specs.Book.{number}
use Rattle.planbook_spec.specs.Note.{counter_block, keystream, block_count, ctr, note_check, note_checks, crypt_note_by}
use Rattle.planbook_spec.specs.Note.{crypt_note_call}
use Rattle.planbook_spec.specs.AnswerCases.{toy_encrypt, rising}

-- The first twelve bytes of a counter block, and the block that counts on from a number.
abbrev pub prefix : List ℕ
prefix = rising 12 0x10

abbrev pub counter_from : ℕ → List ℕ
counter_from n = prefix ++ to_digits 256 4 n

-- A note of 64 bytes, and what it is encrypted to from the last number on: its four counter blocks
-- count ffffffff, 0, 1 and 2. The toy rotates each by one place, so that its first byte, 10, comes
-- last.
abbrev pub text : List ℕ
text = rising 64 0x80

abbrev pub encrypted_text : List ℕ
encrypted_text =
    (0x91 ∷ 0x93 ∷ 0x91 ∷ 0x97 ∷ 0x91 ∷ 0x93 ∷ 0x91 ∷ 0x9f ∷ 0x91 ∷ 0x93 ∷ 0x91 ∷ 0x74 ∷ 0x73 ∷ 0x72 ∷ 0x71 ∷ 0x9f ∷ [])
    ++ (0x81 ∷ 0x83 ∷ 0x81 ∷ 0x87 ∷ 0x81 ∷ 0x83 ∷ 0x81 ∷ 0x8f ∷ 0x81 ∷ 0x83 ∷ 0x81 ∷ 0x9b ∷ 0x9c ∷ 0x9d ∷ 0x9e ∷ 0x8f
    ∷ [])
    ++ (0xb1 ∷ 0xb3 ∷ 0xb1 ∷ 0xb7 ∷ 0xb1 ∷ 0xb3 ∷ 0xb1 ∷ 0xbf ∷ 0xb1 ∷ 0xb3 ∷ 0xb1 ∷ 0xab ∷ 0xac ∷ 0xad ∷ 0xaf ∷ 0xbf
    ∷ [])
    ++ (0xa1 ∷ 0xa3 ∷ 0xa1 ∷ 0xa7 ∷ 0xa1 ∷ 0xa3 ∷ 0xa1 ∷ 0xaf ∷ 0xa1 ∷ 0xa3 ∷ 0xa1 ∷ 0xbb ∷ 0xbc ∷ 0xbd ∷ 0xbc ∷ 0xaf
    ∷ [])

abbrev pub toy_note : List ℕ → List ℕ
toy_note note = ctr toy_encrypt (counter_from 0xffffffff) note

pub note_cases : List Case
note_cases =
    -- counter blocks: the one that is given; after ffffffff zero, and the first twelve bytes as
    -- they were; the last byte runs over into the one before
    (counter_block (counter_from 0xffffffff) 0 gives prefix ++ (0xff ∷ 0xff ∷ 0xff ∷ 0xff ∷ []))
    ∷ (counter_block (counter_from 0xffffffff) 1 gives prefix ++ (0 ∷ 0 ∷ 0 ∷ 0 ∷ []))
    ∷ (counter_block (counter_from 0xfffffffe) 3 gives prefix ++ (0 ∷ 0 ∷ 0 ∷ 1 ∷ []))
    ∷ (counter_block (replicate 12 0xff ++ (0xff ∷ 0xff ∷ 0xff ∷ 0xff ∷ [])) 1 gives replicate 12 0xff
    ++ (0 ∷ 0 ∷ 0 ∷ 0 ∷ []))
    ∷ (counter_block (counter_from 0x010203ff) 1 gives prefix ++ (1 ∷ 2 ∷ 4 ∷ 0 ∷ []))
    ∷ (counter_block (counter_from 0x01fffc01) 1023 gives prefix ++ (2 ∷ 0 ∷ 0 ∷ 0 ∷ []))
    -- the blocks of notes of 0, 1, 15, 16, 17, 33 and 64 bytes; two counter blocks end to end, each
    -- rotated, and no more
    ∷ (block_count [] ∷ block_count (take 1 text) ∷ block_count (take 15 text) ∷ block_count (take 16 text)
    ∷ block_count (take 17 text) ∷ block_count (take 33 text) ∷ block_count text ∷ []
    gives 0 ∷ 1 ∷ 1 ∷ 1 ∷ 2 ∷ 3 ∷ 4 ∷ [])
    ∷ (keystream toy_encrypt (counter_from 6) 1 2 gives rising 11 0x11 ++ (0 ∷ 0 ∷ 0 ∷ 7 ∷ 0x10 ∷ []) ++ rising 11 0x11
    ++ (0 ∷ 0 ∷ 0 ∷ 8 ∷ 0x10 ∷ []))
    -- notes of these lengths
    ∷ (toy_note [] gives [])
    ∷ (toy_note (0x80 ∷ []) gives 0x91 ∷ [])
    ∷ (toy_note (take 15 text) gives take 15 encrypted_text)
    ∷ (toy_note (take 16 text) gives take 16 encrypted_text)
    ∷ (toy_note (take 17 text) gives take 17 encrypted_text)
    ∷ (toy_note (take 33 text) gives take 33 encrypted_text)
    ∷ (toy_note text gives encrypted_text)
    -- and back, through the call: the count is that of the bytes
    ∷ (answer (crypt_note_by [] toy_encrypt (counter_from 0xffffffff) text text)
    ∷ after text (crypt_note_by [] toy_encrypt (counter_from 0xffffffff) text text)
    gives 64 ∷ encrypted_text)
    ∷ (answer (crypt_note_by [] toy_encrypt (counter_from 0xffffffff) encrypted_text text)
    ∷ after text (crypt_note_by [] toy_encrypt (counter_from 0xffffffff) encrypted_text text)
    gives 64 ∷ text)
    ∷ []

pub note_cases_hold : AllHold note_cases
unfolding note_cases rising all_same from_digits to_digits xors answer after judged block_check output_check number
    counter_block keystream block_count ctr note_check note_checks crypt_note_by
note_cases_hold = computed note_cases refl

-- The answer under words of w bytes, by a way, with a counter block of c bytes, a note of n and an
-- output of m.
abbrev pub noted : ℕ → ℕ → ℕ → ℕ → ℕ → ℕ
noted w way c n m = answer (crypt_note_call (replicate w 0) way (replicate c 0) (replicate n 0) (replicate m 0))

-- Checks 14, 2, 3, 4 and 12: each pair that can fail at once, the edges of each, and the counts.
pub note_check_cases : List Case
note_check_cases =
    (noted 159 4 16 1 1 ∷ noted 161 1 15 1 1 ∷ noted 225 1 16 1 2 ∷ noted 0 1 16 16385 16385 ∷ noted 16 1 16 1 1
    ∷ [] gives replicate 5 (14 * 2 ^ 32))
    ∷ (noted 160 0 15 1 1 ∷ noted 192 4 16 1 2 ∷ noted 224 257 16 16385 16385 ∷ [] gives replicate 3 (2 * 2 ^ 32))
    ∷ (noted 160 1 15 1 2 ∷ noted 160 2 17 16385 16385 ∷ noted 160 3 0 1 1 ∷ [] gives replicate 3 (3 * 2 ^ 32))
    ∷ (noted 160 1 16 1 0 ∷ noted 160 2 16 1 2 ∷ noted 160 3 16 16385 16384 ∷ noted 160 3 16 16384 16385
    ∷ [] gives replicate 4 (4 * 2 ^ 32))
    ∷ (noted 160 1 16 16385 16385 ∷ noted 192 2 16 16385 16385 ∷ noted 224 3 16 40000 40000
    ∷ [] gives replicate 3 (12 * 2 ^ 32))
    ∷ (noted 160 1 16 0 0 ∷ noted 192 2 16 17 17 ∷ noted 224 3 16 16384 16384 ∷ [] gives 0 ∷ 17 ∷ 16384 ∷ [])
    ∷ []

pub note_check_cases_hold : AllHold note_check_cases
unfolding note_check_cases all_same answer judged way_check block_check output_check words_check note_check
    note_checks crypt_note_by crypt_note_call
note_check_cases_hold = computed note_check_cases refl
