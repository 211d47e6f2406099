-- The lengths of constants (60, 84, 92) and expanded keys (40, 48, 56), and that all of them are
-- words.
use Prim.Native.Nat.{ℕ, zero, suc, ◌+◌, ◌-◌, ◌*◌, ◌/◌, ◌%◌, ◌^◌, ◌<◌}
use Rattle.std.specs.Prelude.{◌≡◌, refl, true, false, List, ◌++◌, eqb, length}
use Rattle.std.proofs.Math.Path.{sym}
use Rattle.std.proofs.Common.{ap, ◌∙◌, zero-mul, arith, lit<}
use Rattle.std.proofs.Math.Bool.{Bool}
use Rattle.std.proofs.Math.Nat.{suc-mul}
use Rattle.std.proofs.lemmas.Nat.{xor_lt}
use Rattle.std.proofs.Math.Pow.{ones_sub-lt}
use Rattle.std.proofs.Math.Dec.{ltb}
use Rattle.clefia_spec.specs.Words.{◌⊕◌, complement, rotate, digits_of, four_at, choose, by_key_length, KeyLength, sixteen}
use Rattle.clefia_spec.specs.Words.{twenty_four, thirty_two, Below, none, more}
use Rattle.clefia_laws.specs.DigitLaws.{length_numbers_of, below_append, below_take, below_drop, below_get_d}
use Rattle.clefia_laws.specs.DigitLaws.{below_numbers_of, below_digits_of}
use Rattle.clefia_laws.specs.SizedLaws.{Words, sized_append, sized_take, sized_drop, sized_xors}
use Rattle.clefia_spec.specs.Constants.{divide_by_z, even_constant, odd_constant, constants_from, first_t, constants}
use Rattle.clefia_spec.specs.FFunction.{f0, f1}
use Rattle.clefia_laws.specs.FFunctionLaws.{f0_lt, f1_lt}
use Rattle.clefia_spec.specs.Network.{network, network4, network8}
use Rattle.clefia_laws.specs.NetworkLaws.{length_network, below_network}
use Rattle.clefia_spec.specs.KeySchedule.{double_swap_bits, double_swap, bit_range, step_keys, round_keys, expand_short}
use Rattle.clefia_spec.specs.KeySchedule.{expand_long, extend_key, expand_key_words, expand_key}

-- ---- constants

length_constants_from : (n t : ℕ) → length (constants_from n t) ≡ n * 2
unfolding constants_from
length_constants_from zero t = refl
length_constants_from (suc n) t = ap (λ (m : ℕ). suc (suc m)) (length_constants_from n (divide_by_z t))
    ∙ omega (arith, suc-mul n 2)

pub length_constants : {n : ℕ} → KeyLength n → length (constants n) ≡ by_key_length n 60 84 92
unfolding constants first_t
length_constants sixteen = length_constants_from 30 0x428a
length_constants twenty_four = length_constants_from 42 0x7137
length_constants thirty_two = length_constants_from 46 0xb5c0

divide_by_z_lt : (t : ℕ) → t < 2 ^ 16 → divide_by_z t < 2 ^ 16
unfolding divide_by_z
divide_by_z_lt t h = omega (arith, xor_lt 17 (t % 2 * 0x1a831) t (omega arith) (omega arith))

halves_lt : (a b : ℕ) → a < 2 ^ 16 → b < 2 ^ 16 → a * 2 ^ 16 + b < 2 ^ 32
halves_lt a b h l = omega arith

rotate1_lt : (x : ℕ) → x < 2 ^ 16 → rotate 16 1 x < 2 ^ 16
unfolding rotate
rotate1_lt x h = omega arith

rotate8_lt : (x : ℕ) → x < 2 ^ 16 → rotate 16 8 x < 2 ^ 16
unfolding rotate
rotate8_lt x h = omega arith

complement_lt : (w x : ℕ) → complement w x < 2 ^ w
unfolding complement
complement_lt w x = ones_sub-lt w x

below_constants_from : (n t : ℕ) → t < 2 ^ 16 → Below (2 ^ 32) (constants_from n t)
unfolding constants_from even_constant odd_constant
below_constants_from zero t h = none
below_constants_from (suc n) t h =
    more (halves_lt (t ⊕ 0xb7e1) (rotate 16 1 (complement 16 t)) (xor_lt 16 t 0xb7e1 h (lit< tt))
    (rotate1_lt (complement 16 t) (complement_lt 16 t)))
    (more (halves_lt (complement 16 t ⊕ 0x243f) (rotate 16 8 t)
    (xor_lt 16 (complement 16 t) 0x243f (complement_lt 16 t) (lit< tt)) (rotate8_lt t h))
    (below_constants_from n (divide_by_z t) (divide_by_z_lt t h)))

pub below_constants : {n : ℕ} → KeyLength n → Below (2 ^ 32) (constants n)
unfolding constants first_t
below_constants sixteen = below_constants_from 30 0x428a (lit< tt)
below_constants twenty_four = below_constants_from 42 0x7137 (lit< tt)
below_constants thirty_two = below_constants_from 46 0xb5c0 (lit< tt)

-- ---- round keys

below_four_at : {b : ℕ} {w : List ℕ} → 0 < b → Below b w → (i : ℕ) → Below b (four_at w i)
unfolding four_at
below_four_at pos r i =
    more (below_get_d pos r i) (more (below_get_d pos r (i + 1))
    (more (below_get_d pos r (i + 2)) (more (below_get_d pos r (i + 3)) none)))

pub length_double_swap : (x : List ℕ) → length (double_swap x) ≡ 4
unfolding double_swap
length_double_swap x = length_numbers_of 2 32 4 (double_swap_bits (digits_of 2 32 x))

below_double_swap : (x : List ℕ) → Below (2 ^ 32) (double_swap x)
unfolding double_swap double_swap_bits bit_range
below_double_swap x =
    below_numbers_of (lit< tt) 32 4
    (below_append (below_append (below_append (part 7 63) (part 121 127)) (part 0 6)) (part 64 120))
  where
    part : (a b : ℕ) → Below 2 (bit_range a b (digits_of 2 32 x))
    part a b = below_take (b + 1 - a) (below_drop a (below_digits_of (lit< tt) 32 x))

words_swapped : (x : List ℕ) → Words 4 (double_swap x)
words_swapped x = record { size = length_double_swap x; below = below_double_swap x }

words_four_at : {w : List ℕ} → Below (2 ^ 32) w → (i : ℕ) → Words 4 (four_at w i)
unfolding four_at
words_four_at r i = record { size = refl; below = below_four_at (lit< tt) r i }

words_chosen : {n : ℕ} (t : Bool) {a b : List ℕ} → Words n a → Words n b → Words n (choose t a b)
words_chosen true p q = p
words_chosen false p q = q

words_step_keys : (i : ℕ) {con k l : List ℕ} → Words 4 con → Words 4 k → Words 4 l → Words 4 (step_keys i con k l)
unfolding step_keys
words_step_keys i c p q = words_chosen (eqb (i % 2) 1) (sized_xors 32 p (sized_xors 32 c q)) (sized_xors 32 c q)

module _ (period base : ℕ) (con : List ℕ) (r : Below (2 ^ 32) con) where
  words_round_keys : (n i : ℕ) {k k' l l' : List ℕ} → Words 4 k → Words 4 k' → Words 4 l → Words 4 l'
      → Words (n * 4) (round_keys period base con n i k k' l l')
  unfolding round_keys
  words_round_keys zero i hk hk' hl hl' = record { size = sym (zero-mul 4); below = none }
  words_round_keys (suc n) i {k} {k'} {l} {l'} hk hk' hl hl' =
      let t : Bool = ltb (i % period) 2 in
      sized_append 4 (n * 4)
      (words_step_keys i (words_four_at r (base + 4 * i)) (words_chosen t hk hk') (words_chosen t hl hl'))
      (words_round_keys n (i + 1) hk hk' (words_chosen t (words_swapped l) hl) (words_chosen t hl' (words_swapped l')))
      (omega (arith, suc-mul n 4))

-- ---- expanded keys

pub words_network : (p n : ℕ) (con : List ℕ) (i : ℕ) {m : ℕ} {s : List ℕ} → Words m s
    → Words m (network p f0 f1 n con i s)
words_network p n con i {s = s} h =
    record {
      size = length_network p f0 f1 n con i s ∙ h.size;
      below =
          below_network p f0 f1 32 f0_lt f1_lt n con i h.below;
    }

words_short : {k : List ℕ} → Words 4 k → Words 40 (expand_short k)
unfolding expand_short
words_short {k} h =
    sized_append 4 36 h (words_round_keys 2 24 (constants 16) (below_constants sixteen) 9 0 h h l l) refl
  where
    l : Words 4 (network4 12 (constants 16) 0 k)
    l = words_network 2 12 (constants 16) 0 h

words_long : {con : List ℕ} (n : ℕ) {kl kr : List ℕ} → Below (2 ^ 32) con → Words 4 kl → Words 4 kr
    → Words (4 + n * 4) (expand_long con n kl kr)
unfolding expand_long
words_long {con} n {kl} {kr} c hl hr =
    sized_append 4 (n * 4) (sized_xors 32 hl hr)
    (words_round_keys 4 40 con c n 0 hr hl (sized_take 4 4 l refl) (sized_drop 4 4 l refl)) refl
  where
    l : Words 8 (network8 10 con 0 (kl ++ kr))
    l = words_network 4 10 con 0 (sized_append 4 4 hl hr refl)

words_extend_key : {k : List ℕ} → Below (2 ^ 32) k → Words 4 (extend_key k)
unfolding extend_key
words_extend_key r = record { size = refl; below = search (more, none, below_get_d, complement_lt, lit<, tt) depth 9 }

pub words_expand_key_words : {n : ℕ} → KeyLength n → {k : List ℕ} → Below (2 ^ 32) k
    → Words (by_key_length n 40 48 56) (expand_key_words n k)
unfolding expand_key_words
words_expand_key_words sixteen r = words_short (words_four_at r 0)
words_expand_key_words twenty_four r =
    words_long 11 (below_constants twenty_four) (words_four_at r 0) (words_extend_key r)
words_expand_key_words thirty_two r = words_long 13 (below_constants thirty_two) (words_four_at r 0) (words_four_at r 4)

-- The expanded key of a key of a permitted length: 40, 48 or 56 words.
pub words_expand_key : {key : List ℕ} → KeyLength (length key) → Below 256 key
    → Words (by_key_length (length key) 40 48 56) (expand_key key)
unfolding expand_key
words_expand_key {key} h r = words_expand_key_words h (below_numbers_of (lit< tt) 4 (length key / 4) r)

pub length_expand_key : {key : List ℕ} → KeyLength (length key) → Below 256 key
    → length (expand_key key) ≡ by_key_length (length key) 40 48 56
length_expand_key h r = (words_expand_key h r).size
