-- Worked examples of the CLEFIA specification (section 2.5.1): whole expanded keys, and one round
-- under the first words of one. They catch slips that the marked cases miss: in rotations,
-- DoubleSwap, the order of constants, keys and halves, whitening, bytes and words. (One printed
-- round key breaks the paper's own rules and is corrected: RK15 of the 24-byte key is 92cfc98e.)
use Rattle.std.specs.Prelude.{ℕ, List, [], ◌∷◌, ◌++◌, refl, length, get_or, take, replicate}
use Rattle.clefia_spec.specs.Words.{complement, rotate, from_digits, to_digits, digits_of, numbers_of, bytes_of}
use Rattle.clefia_spec.specs.Words.{four_at, xors}
use Rattle.clefia_spec.specs.Constants.{divide_by_z, even_constant, odd_constant, constants_from, first_t, constants}
use Rattle.clefia_spec.specs.Field.{double, add_product, product, squares, inverse}
use Rattle.clefia_spec.specs.Sbox.{ss0, ss1, ss2, ss3, s0, s1, bit_of, sum_of_bits, affine, f_rows, g_rows}
use Rattle.clefia_spec.specs.FFunction.{m0, m1, matrix_entry, row_times, matrix_times, substitute, f0, f1}
use Rattle.clefia_spec.specs.Network.{feistel, rotate_branches, rounds, undo_rounds, network, inverse_network}
use Rattle.clefia_spec.specs.KeySchedule.{bit_range, double_swap_bits, double_swap, step_keys, round_keys, expand_short}
use Rattle.clefia_spec.specs.KeySchedule.{expand_long, extend_key, expand_key_words, expand_key}
use Rattle.clefia_spec.specs.Block.{whiten, round_count, encrypt_words, decrypt_words, encrypt_under, decrypt_under}
use Rattle.clefia_spec.specs.Cases.{Case, ◌gives◌, AllHold, all_same, computed}

-- The 32-byte key of section 2.5. Its first 16 and 24 bytes are the shorter keys.
abbrev pub key32 : List ℕ
key32 = bytes_of (0xffeeddcc ∷ 0xbbaa9988 ∷ 0x77665544 ∷ 0x33221100 ∷ 0xf0e0d0c0 ∷ 0xb0a09080 ∷ 0x70605040 ∷ 0x30201000
    ∷ [])

-- WK (whitening words) and then RK (round keys) of the two shorter keys. (Crate test_long_cases has
-- a ciphertext under each of the three.)
pub expanded_keys : List Case
expanded_keys =
    (expand_key (take 16 key32) gives
    0xffeeddcc ∷ 0xbbaa9988 ∷ 0x77665544 ∷ 0x33221100 ∷ 0xf3e6cef9 ∷ 0x8df75e38 ∷ 0x41c06256 ∷ 0x640ac51b ∷
    0x6a27e20a ∷ 0x5a791b90 ∷ 0xe8c528dc ∷ 0x00336ea3 ∷ 0x59cd17c4 ∷ 0x28565583 ∷ 0x312a37cc ∷ 0xc08abd77 ∷
    0x7e8e7eec ∷ 0x8be7e949 ∷ 0xd3f463d6 ∷ 0xa0aad6aa ∷ 0xe75eb039 ∷ 0x0d657eb9 ∷ 0x018002e2 ∷ 0x9117d009 ∷
    0x9f98d11e ∷ 0xbabee8cf ∷ 0xb0369efa ∷ 0xd3aaef0d ∷ 0x3438f93b ∷ 0xf9cea4a0 ∷ 0x68df9029 ∷ 0xb869b4a7 ∷
    0x24d6406d ∷ 0xe74bc550 ∷ 0x41c28193 ∷ 0x16de4795 ∷ 0xa34a20f5 ∷ 0x33265d14 ∷ 0xb19d0554 ∷ 0x5142f434 ∷ [])
    ∷ (expand_key (take 24 key32) gives
    0x0f0e0d0c ∷ 0x0b0a0908 ∷ 0x77777777 ∷ 0x77777777 ∷ 0x4d3bfd1b ∷ 0x7a1f5dfa ∷ 0x0fae6e7c ∷ 0xc8bf3237 ∷
    0x73c2eeb8 ∷ 0xdd429ec5 ∷ 0xe220b3af ∷ 0xc9135e73 ∷ 0x38c46a07 ∷ 0xfc2ce4ba ∷ 0x370abf2d ∷ 0xb05e627b ∷
    0x38351b2f ∷ 0x74bd6e1e ∷ 0x1b7c7dce ∷ 0x92cfc98e ∷ 0x509b31a6 ∷ 0x4c5ad53c ∷ 0x6fc2ba33 ∷ 0xe1e5c878 ∷
    0x419a74b9 ∷ 0x1dd79e0e ∷ 0x240a33d2 ∷ 0x9dabfd09 ∷ 0x6e3ff82a ∷ 0x74ac3ffd ∷ 0xb9696e2e ∷ 0xcc0b3a38 ∷
    0xed785cbd ∷ 0x9c077c13 ∷ 0x04978d83 ∷ 0x2ec058ba ∷ 0x4bbd5f6a ∷ 0x31fe8de8 ∷ 0xb76da574 ∷ 0x3a6fa8e7 ∷
    0x521213ce ∷ 0x4f1f59d8 ∷ 0xc13624f6 ∷ 0xee91f6a4 ∷ 0x17f68fde ∷ 0xf6c360a9 ∷ 0x6288bc72 ∷ 0xc0ad856b ∷ [])
    ∷ []

-- How many constants there are, and the last two (tables 2.8 to 2.12).
pub constants_examples : List Case
constants_examples =
    (length (constants 16) ∷ get_or (constants 16) 58 0 ∷ get_or (constants 16) 59 0 ∷ [] gives
    60 ∷ 0x1052b098 ∷ 0x7c73b3a7
    ∷ [])
    ∷ (length (constants 24) ∷ get_or (constants 24) 82 0 ∷ get_or (constants 24) 83 0 ∷ [] gives 84 ∷ 0x3e51ec9e
    ∷ 0x5270b089 ∷ [])
    ∷ (length (constants 32) ∷ get_or (constants 32) 90 0 ∷ get_or (constants 32) 91 0 ∷ [] gives 92 ∷ 0x04cf99a2
    ∷ 0x68ee2eb3 ∷ [])
    ∷ []

-- WK, RK0 and RK1 of the 16-byte key: six words that all differ. Two rounds have RK2 and RK3 too.
abbrev one_round : List ℕ
one_round = 0xffeeddcc ∷ 0xbbaa9988 ∷ 0x77665544 ∷ 0x33221100 ∷ 0xf3e6cef9 ∷ 0x8df75e38 ∷ []

abbrev two_rounds : List ℕ
two_rounds = one_round ++ 0x41c06256 ∷ 0x640ac51b ∷ []

-- A block and what one round makes of it: the paper's first round, rotated back, with the last two
-- whitening words added.
abbrev pub clear_block : List ℕ
clear_block = 0 ∷ 1 ∷ 2 ∷ 3 ∷ 4 ∷ 5 ∷ 6 ∷ 7 ∷ 8 ∷ 9 ∷ 10 ∷ 11 ∷ 12 ∷ 13 ∷ 14 ∷ 15 ∷ []

abbrev rounded_block : List ℕ
rounded_block = 0x00 ∷ 0x01 ∷ 0x02 ∷ 0x03 ∷ 0xd8 ∷ 0xf7 ∷ 0xbf ∷ 0x1c ∷ 0x08 ∷ 0x09 ∷ 0x0a ∷ 0x0b ∷ 0x2f ∷ 0x74 ∷ 0xa6
    ∷ 0xf7 ∷ []

pub block_examples : List Case
block_examples =
    (encrypt_under one_round clear_block gives rounded_block)
    ∷ (decrypt_under one_round rounded_block gives clear_block)
    ∷ (decrypt_under two_rounds (encrypt_under two_rounds clear_block) gives clear_block)
    ∷ (round_count (replicate 40 0) ∷ round_count (replicate 48 0) ∷ round_count (replicate 56 0) ∷ [] gives
    18 ∷ 22 ∷ 26
    ∷ [])
    ∷ []

pub block_examples_hold : AllHold block_examples
unfolding block_examples all_same from_digits to_digits digits_of numbers_of xors double add_product product squares
    inverse ss0 ss1 ss2 ss3 s0 s1 bit_of sum_of_bits affine f_rows g_rows m0 m1 matrix_entry row_times matrix_times
    substitute f0 f1 feistel rotate_branches rounds undo_rounds network inverse_network whiten round_count
    encrypt_words decrypt_words encrypt_under decrypt_under
block_examples_hold = computed block_examples refl

pub constants_examples_hold : AllHold constants_examples
unfolding constants_examples all_same complement rotate divide_by_z even_constant odd_constant constants_from first_t
    constants
constants_examples_hold = computed constants_examples refl

pub expanded_keys_hold : AllHold expanded_keys
unfolding expanded_keys all_same complement rotate from_digits to_digits digits_of numbers_of four_at xors divide_by_z
    even_constant odd_constant constants_from first_t constants double add_product product squares inverse ss0 ss1 ss2
    ss3 s0 s1 bit_of sum_of_bits affine f_rows g_rows m0 m1 matrix_entry row_times matrix_times substitute f0 f1
    feistel rotate_branches rounds network bit_range double_swap_bits double_swap step_keys round_keys expand_short
    expand_long extend_key expand_key_words expand_key
expanded_keys_hold = computed expanded_keys refl
