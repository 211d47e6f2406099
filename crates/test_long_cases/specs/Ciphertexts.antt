-- The ciphertexts of the CLEFIA specification (section 2.5), through the calls: the number that C
-- receives, and then the bytes. Under the words of each of the three keys the block 00 01 .. 0f is
-- encrypted, and under those of the first one decrypted again. They test every definition from a
-- key's bytes to a block's.
use Rattle.std.specs.Prelude.{ℕ, List, [], ◌∷◌, refl, take, replicate}
use Rattle.clefia_spec.specs.Words.{complement, rotate, from_digits, to_digits, digits_of, numbers_of, bytes_of, four_at}
use Rattle.clefia_spec.specs.Words.{xors}
use Rattle.clefia_spec.specs.Constants.{divide_by_z, even_constant, odd_constant, constants_from, first_t, constants}
use Rattle.clefia_spec.specs.Field.{double, add_product, product, squares, inverse}
use Rattle.clefia_spec.specs.Sbox.{ss0, ss1, ss2, ss3, s0, s1, bit_of, sum_of_bits, affine, f_rows, g_rows}
use Rattle.clefia_spec.specs.FFunction.{m0, m1, matrix_entry, row_times, matrix_times, substitute, f0, f1}
use Rattle.clefia_spec.specs.Network.{feistel, rotate_branches, rounds, undo_rounds, network, inverse_network}
use Rattle.clefia_spec.specs.KeySchedule.{bit_range, double_swap_bits, double_swap, step_keys, round_keys, expand_short}
use Rattle.clefia_spec.specs.KeySchedule.{expand_long, extend_key, expand_key_words, expand_key}
use Rattle.clefia_spec.specs.Block.{whiten, round_count, encrypt_words, decrypt_words, encrypt_under, decrypt_under}
use Rattle.clefia_spec.specs.Cases.{Case, ◌gives◌, AllHold, all_same, computed}
use Rattle.clefia_spec.specs.Examples.{key32, clear_block}
use Rattle.planbook_spec.specs.Outcome.{Outcome, answer, after, judged}
use Rattle.planbook_spec.specs.Checks.{way_check, block_check, output_check, words_check, words_from_bytes, block_checks}
use Rattle.planbook_spec.specs.Checks.{encrypt_block_call, decrypt_block_call}

-- What a call that is given 16 zero bytes returns.
abbrev handed : Outcome → List ℕ
handed o = answer o ∷ after (replicate 16 0) o

-- The words of a key as bytes, as planbook_expand_key writes them.
abbrev words_for : List ℕ → List ℕ
words_for key = bytes_of (expand_key key)

abbrev encrypted16 : List ℕ
encrypted16 = bytes_of (0xde2bf2fd ∷ 0x9b74aacd ∷ 0xf1298555 ∷ 0x459494fd ∷ [])

pub ciphertexts : List Case
ciphertexts =
    (handed (encrypt_block_call (words_for (take 16 key32)) 1 clear_block (replicate 16 0)) gives 1 ∷ encrypted16)
    ∷ (handed (encrypt_block_call (words_for (take 24 key32)) 2 clear_block (replicate 16 0)) gives 1
    ∷ bytes_of (0xe2482f64 ∷ 0x9f028dc4 ∷ 0x80dda184 ∷ 0xfde181ad ∷ []))
    ∷ (handed (encrypt_block_call (words_for key32) 3 clear_block (replicate 16 0)) gives 1
    ∷ bytes_of (0xa1397814 ∷ 0x289de80c ∷ 0x10da46d1 ∷ 0xfa48b38a ∷ []))
    ∷ (handed (decrypt_block_call (words_for (take 16 key32)) 1 encrypted16 (replicate 16 0)) gives 1 ∷ clear_block)
    ∷ []

pub ciphertexts_hold : AllHold ciphertexts
unfolding ciphertexts all_same complement rotate from_digits to_digits digits_of numbers_of four_at xors divide_by_z
    even_constant odd_constant constants_from first_t constants double add_product product squares inverse ss0 ss1 ss2
    ss3 s0 s1 bit_of sum_of_bits affine f_rows g_rows m0 m1 matrix_entry row_times matrix_times substitute f0 f1
    feistel rotate_branches rounds undo_rounds network inverse_network bit_range double_swap_bits double_swap
    step_keys round_keys expand_short expand_long extend_key expand_key_words expand_key whiten round_count
    encrypt_words decrypt_words encrypt_under decrypt_under answer after judged way_check block_check output_check
    words_check words_from_bytes block_checks encrypt_block_call decrypt_block_call
ciphertexts_hold = computed ciphertexts refl
