-- The expanded key: four whitening words and the round keys. (Document 01's term: prepared key.)
use Rattle.std.specs.Prelude.{ℕ, zero, suc, ◌+◌, ◌-◌, ◌*◌, ◌/◌, ◌%◌, List, [], ◌∷◌, ◌++◌, eqb, ltb, length, get_or, take, drop}
use Rattle.clefia_spec.specs.Words.{complement, digits_of, numbers_of, words_of, four_at, xors, choose, by_key_length}
use Rattle.clefia_spec.specs.Constants.{constants}
use Rattle.clefia_spec.specs.Network.{network4, network8}

-- Bits a to b of a list, ends included; bit 0 is the first.
unfoldable pub bit_range : ℕ → ℕ → List ℕ → List ℕ
bit_range a b bits = take (b + 1 - a) (drop a bits)

unfoldable pub double_swap_bits : List ℕ → List ℕ
double_swap_bits x = bit_range 7 63 x ++ bit_range 121 127 x ++ bit_range 0 6 x ++ bit_range 64 120 x

-- DoubleSwap, Σ, on four words: their 128 bits in another order.
unfoldable pub double_swap : List ℕ → List ℕ
double_swap x = numbers_of 2 32 4 (double_swap_bits (digits_of 2 32 x))

-- The four round keys of step i: l and four constants added, and k too where i is odd.
unfoldable pub step_keys : ℕ → List ℕ → List ℕ → List ℕ → List ℕ
step_keys i con k l = choose (eqb (i % 2) 1) (xors k (xors con l)) (xors con l)

-- The round keys of n steps from step i on. The constants of step i are at base + 4i. A step where
-- i % period is below 2 uses l, with k at odd steps, and then applies DoubleSwap to l; any other
-- step does the same with l' and k'.
unfoldable pub round_keys : ℕ → ℕ → List ℕ → ℕ → ℕ → List ℕ → List ℕ → List ℕ → List ℕ → List ℕ
round_keys period base con zero i k k' l l' = []
round_keys period base con (suc n) i k k' l l' =
    step_keys i (four_at con (base + 4 * i)) (choose (ltb (i % period) 2) k k') (choose (ltb (i % period) 2) l l')
    ++ round_keys period base con n (i + 1) k k'
    (choose (ltb (i % period) 2) (double_swap l) l)
    (choose (ltb (i % period) 2) l' (double_swap l'))

-- A key of four words: L is 12 rounds over the key, the whitening words are the key, and 9 steps
-- all use L and the key (with a period of 2 every step has i % period below 2).
unfoldable pub expand_short : List ℕ → List ℕ
expand_short k =
    let l : List ℕ = network4 12 (constants 16) 0 k in
    k ++ round_keys 2 24 (constants 16) 9 0 k k l l

-- A longer key, as KL and KR: LL and LR are the halves of what 10 rounds make of both, and the
-- whitening words the sum of both. Of the n steps, two use LL and KR, the next two LR and KL, and
-- so on.
unfoldable pub expand_long : List ℕ → ℕ → List ℕ → List ℕ → List ℕ
expand_long con n kl kr =
    let l : List ℕ = network8 10 con 0 (kl ++ kr) in
    xors kl kr ++ round_keys 4 40 con n 0 kr kl (take 4 l) (drop 4 l)

-- KR of a key of six words: its last two, and its first two with every bit inverted.
unfoldable pub extend_key : List ℕ → List ℕ
extend_key k = get_or k 4 0 ∷ get_or k 5 0 ∷ complement 32 (get_or k 0 0) ∷ complement 32 (get_or k 1 0) ∷ []

-- The expanded key of a key of 16, 24 or 32 bytes: 40, 48 or 56 words.
unfoldable pub expand_key_words : ℕ → List ℕ → List ℕ
expand_key_words n k =
    by_key_length n (expand_short (four_at k 0)) (expand_long (constants 24) 11 (four_at k 0) (extend_key k))
    (expand_long (constants 32) 13 (four_at k 0) (four_at k 4))

unfoldable pub expand_key : List ℕ → List ℕ
expand_key key = expand_key_words (length key) (words_of (length key / 4) key)
