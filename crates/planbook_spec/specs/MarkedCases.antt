-- The cases that document 01 marks to be shown of the definitions: input and value of each, in one
-- list.
use Rattle.std.specs.Prelude.{List, [], ◌∷◌, refl, take, replicate}
use Rattle.clefia_spec.specs.Words.{complement, rotate, from_digits, to_digits, digits_of, numbers_of}
use Rattle.clefia_spec.specs.Constants.{divide_by_z, even_constant, odd_constant, constants_from, first_t, constants}
use Rattle.clefia_spec.specs.Field.{double, double8, add_product, product, squares, inverse}
use Rattle.clefia_spec.specs.Sbox.{ss0, ss1, ss2, ss3, s0, s1, bit_of, sum_of_bits, affine, f_rows, g_rows}
use Rattle.clefia_spec.specs.FFunction.{m0, m1, matrix_entry, row_times, matrix_times, substitute, f0, f1}
use Rattle.clefia_spec.specs.Network.{feistel, rotate_branches, rounds}
use Rattle.clefia_spec.specs.KeySchedule.{bit_range, double_swap_bits, double_swap}
use Rattle.clefia_spec.specs.Cases.{Case, ◌gives◌, AllHold, all_same, computed}
use Rattle.planbook_spec.specs.Outcome.{Outcome, answer, after, judged}
use Rattle.planbook_spec.specs.Checks.{way_check, output_check, words_check}
use Rattle.planbook_spec.specs.Book.{number, pieces, entries_hold, record_count, form_checks, each_body, sheets_hold}
use Rattle.planbook_spec.specs.Book.{records_check, map_bodies, book_checks, encrypt_book_by, encrypt_book_call}

-- The empty book, encrypted by way 1. It has no record, so the words do not matter: 40 of them, all
-- zero.
abbrev pub empty_encrypted : Outcome
empty_encrypted = encrypt_book_call (replicate 160 0) 1 (0x01 ∷ 0x00 ∷ 0x00 ∷ 0x00 ∷ []) (replicate 4 0)

pub marked_cases : List Case
marked_cases =
    (s0 0x00 ∷ s0 0x16 ∷ [] gives 0x57 ∷ 0x85 ∷ [])
    ∷ (s1 0x00 ∷ s1 0x18 ∷ [] gives 0x6c ∷ 0x9e ∷ [])
    ∷ (double8 0x8e ∷ [] gives 0x01 ∷ [])
    ∷ (f0 0x4d3bfd1b 0x00010203 ∷ [] gives 0xb5021a3b ∷ [])
    ∷ (f1 0x7a1f5dfa 0x08090a0b ∷ [] gives 0xc397f62b ∷ [])
    ∷ (rounds 2 f0 f1 1 (0x4d3bfd1b ∷ 0x7a1f5dfa ∷ []) 0 (0x00010203 ∷ 0x0b0b0b0b ∷ 0x08090a0b ∷ 0x07070707 ∷ [])
    gives 0xbe091130 ∷ 0x08090a0b ∷ 0xc490f12c ∷ 0x00010203 ∷ [])
    ∷ (take 4 (constants 16) gives 0xf56b7aeb ∷ 0x994a8a42 ∷ 0x96a4bd75 ∷ 0xfa854521 ∷ [])
    ∷ (take 1 (constants 24) gives 0xc6d61d91 ∷ [])
    ∷ (take 1 (constants 32) gives 0x0221947e ∷ [])
    -- bit 0 goes to bit 64, and bit 127 to bit 63
    ∷ (double_swap (0x80000000 ∷ 0 ∷ 0 ∷ 0 ∷ []) gives 0 ∷ 0 ∷ 0x80000000 ∷ 0 ∷ [])
    ∷ (double_swap (0 ∷ 0 ∷ 0 ∷ 1 ∷ []) gives 0 ∷ 1 ∷ 0 ∷ 0 ∷ [])
    -- the empty book: the number that C receives, which is check 0 and count 0, and then the bytes
    ∷ (answer empty_encrypted ∷ after (replicate 4 0) empty_encrypted gives 0 ∷ 2 ∷ 0 ∷ 0 ∷ 0 ∷ [])
    ∷ []

pub marked_cases_hold : AllHold marked_cases
unfolding marked_cases all_same complement rotate from_digits to_digits digits_of numbers_of divide_by_z even_constant
    odd_constant constants_from first_t constants double add_product product squares inverse ss0 ss1 ss2 ss3 s0 s1
    bit_of sum_of_bits affine f_rows g_rows m0 m1 matrix_entry row_times matrix_times substitute f0 f1 feistel
    rotate_branches rounds bit_range double_swap_bits double_swap answer after judged way_check output_check
    words_check number pieces entries_hold record_count form_checks each_body sheets_hold records_check map_bodies
    book_checks encrypt_book_by encrypt_book_call
marked_cases_hold = computed marked_cases refl
