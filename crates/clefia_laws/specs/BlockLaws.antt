-- Decryption undoes encryption and encryption undoes decryption, on every block: under any words of
-- a permitted count, and under every key of a permitted length. So encryption is injective. What
-- comes out is a block of 16 bytes.
use Rattle.std.specs.Prelude.{ℕ, zero, suc, ◌+◌, ◌*◌, ◌^◌, ◌≤◌, ◌<◌, ◌≡◌, refl, length, get_or, take, drop}
use Rattle.std.proofs.Common.{sym, ap, ◌∙◌, suc-mul, mod-eq_of_lt, arith, lit<, length-drop, take-append-drop, length-take-le}
use mathlib.Core.List.{List, [], ◌∷◌, ◌++◌}
use Rattle.std.proofs.lemmas.List.{take-append-le, drop-append-le}
use Rattle.clefia_spec.specs.Words.{from_digits, to_digits, numbers_of, bytes_of, words_of, KeyLength, Below, none, more}
use Rattle.clefia_laws.specs.DigitLaws.{length_digits_of, length_numbers_of, numbers_digits, digits_numbers}
use Rattle.clefia_laws.specs.DigitLaws.{below_digits_of, below_numbers_of, below_get_d, below_take, from_to}
use Rattle.clefia_laws.specs.DigitLaws.{xors_cancel}
use Rattle.clefia_spec.specs.FFunction.{f0, f1}
use Rattle.clefia_laws.specs.FFunctionLaws.{f0_lt, f1_lt}
use Rattle.clefia_spec.specs.Network.{network4, inverse_network4}
use Rattle.clefia_laws.specs.NetworkLaws.{undo_network, redo_network, length_inverse_network, below_inverse_network}
use Rattle.clefia_laws.specs.KeyLaws.{words_network, words_expand_key}
use Rattle.clefia_laws.specs.SizedLaws.{Bytes, Words, sized_xors, Undone}
use Rattle.clefia_spec.specs.Block.{whiten, round_count, encrypt_words, decrypt_words, encrypt_under, decrypt_under, encrypt}
use Rattle.clefia_spec.specs.Block.{decrypt}

-- ---- four words, under any words w

whiten_twice : (a b : ℕ) (s : List ℕ) → whiten a b (whiten a b s) ≡ s
unfolding whiten
whiten_twice a b s = xors_cancel (0 ∷ a ∷ 0 ∷ b ∷ []) s

pub decrypt_encrypt_words : (w s : List ℕ) → decrypt_words w (encrypt_words w s) ≡ s
unfolding encrypt_words decrypt_words
decrypt_encrypt_words w s =
    ap (λ (t : List ℕ). whiten (get_or w 0 0) (get_or w 1 0) (inverse_network4 (round_count w) w 4 t))
    (whiten_twice (get_or w 2 0) (get_or w 3 0) _)
    ∙ ap (whiten (get_or w 0 0) (get_or w 1 0)) (undo_network 2 f0 f1 (round_count w) w 4
    (whiten (get_or w 0 0) (get_or w 1 0) s))
    ∙ whiten_twice (get_or w 0 0) (get_or w 1 0) s

pub encrypt_decrypt_words : (w s : List ℕ) → encrypt_words w (decrypt_words w s) ≡ s
unfolding encrypt_words decrypt_words
encrypt_decrypt_words w s =
    ap (λ (t : List ℕ). whiten (get_or w 2 0) (get_or w 3 0) (network4 (round_count w) w 4 t))
    (whiten_twice (get_or w 0 0) (get_or w 1 0) _)
    ∙ ap (whiten (get_or w 2 0) (get_or w 3 0)) (redo_network 2 f0 f1 (round_count w) w 4
    (whiten (get_or w 2 0) (get_or w 3 0) s))
    ∙ whiten_twice (get_or w 2 0) (get_or w 3 0) s

words_whiten : {a b : ℕ} → a < 2 ^ 32 → b < 2 ^ 32 → {n : ℕ} {s : List ℕ} → Words n s → Words n (whiten a b s)
unfolding whiten
words_whiten ha hb h = sized_xors 32 (record
    { size = refl; below = more (lit< tt) (more ha (more (lit< tt) (more hb none))) }) h

module _ {w : List ℕ} (words : Below (2 ^ 32) w) where
  at : (i : ℕ) → get_or w i 0 < 2 ^ 32
  at i = below_get_d (lit< tt) words i

  pub words_encrypt_words : {n : ℕ} {s : List ℕ} → Words n s → Words n (encrypt_words w s)
  unfolding encrypt_words
  words_encrypt_words h = words_whiten (at 2) (at 3) (words_network 2 (round_count w) w 4
      (words_whiten (at 0) (at 1) h))

  pub words_decrypt_words : {n : ℕ} {s : List ℕ} → Words n s → Words n (decrypt_words w s)
  unfolding decrypt_words
  words_decrypt_words h = words_whiten (at 0) (at 1) (words_back (words_whiten (at 2) (at 3) h))
    where
      words_back : {n : ℕ} {s : List ℕ} → Words n s → Words n (inverse_network4 (round_count w) w 4 s)
      words_back {s = s} p =
          record {
            size = length_inverse_network 2 f0 f1 (round_count w) w 4 s ∙ p.size;
            below = below_inverse_network 2 f0 f1 32 f0_lt f1_lt (round_count w) w 4 p.below;
          }

-- ---- bytes of four words, and back

pub word_back : (x : ℕ) → x < 2 ^ 32 → from_digits 256 (to_digits 256 4 x) ≡ x
word_back x h = from_to (lit< tt) 4 x ∙ mod-eq_of_lt h

pub block_words : {s : List ℕ} → Words 4 s → words_of 4 (bytes_of s) ≡ s
block_words {s} h = ap (λ (n : ℕ). words_of n (bytes_of s)) (sym h.size) ∙ numbers_digits (lit< tt) 4 h.below

pub words_block : {b : List ℕ} → Bytes 16 b → bytes_of (words_of 4 b) ≡ b
words_block {b} h = digits_numbers (lit< tt) 4 4 b h.below h.size

pub words_of_block : {b : List ℕ} → Below 256 b → Words 4 (words_of 4 b)
words_of_block {b} r = record { size = length_numbers_of 256 4 4 b; below = below_numbers_of (lit< tt) 4 4 r }

pub bytes_of_words : {s : List ℕ} → Words 4 s → Bytes 16 (bytes_of s)
bytes_of_words {s} h = record {
  size = length_digits_of 256 4 s ∙ ap (λ (n : ℕ). n * 4) h.size;
  below =
      below_digits_of (lit< tt) 4 s;
}

-- ---- a block at the start of a list of bytes

-- Numbers that are written at the start of a list, whatever follows them.
numbers_append : (b k n : ℕ) (xs ys : List ℕ) → length xs ≡ n * k → numbers_of b k n (xs ++ ys) ≡ numbers_of b k n xs
unfolding numbers_of
numbers_append b k zero xs ys e = refl
numbers_append b k (suc n) xs ys e =
    let m : length xs ≡ n * k + k = e ∙ suc-mul n k in
    let fits : k ≤ length xs = omega arith in
    rw (
      take-append-le k xs ys fits,
      drop-append-le k xs ys fits,
      numbers_append b k n (drop k xs) ys (length-drop k xs ∙ omega arith),
    )

-- The four words of the first block, and its bytes.
pub words_at : (bs : List ℕ) → 16 ≤ length bs → words_of 4 (take 16 bs) ≡ words_of 4 bs
words_at bs h =
    sym (numbers_append 256 4 4 (take 16 bs) (drop 16 bs) (length-take-le 16 bs h))
    ∙ ap (words_of 4) (take-append-drop 16 bs)

pub block_at : (bs : List ℕ) → Below 256 bs → 16 ≤ length bs → bytes_of (words_of 4 bs) ≡ take 16 bs
block_at bs r h =
    ap bytes_of (sym (words_at bs h)) ∙ digits_numbers (lit< tt) 4 4 (take 16 bs) (below_take 16 r)
    (length-take-le 16 bs h)

-- ---- blocks

-- a function on lists of four words, as one on the bytes of a block
undoes_bytes : (f g : List ℕ → List ℕ) → ((s : List ℕ) → Words 4 s → Words 4 (f s)) → ((s : List ℕ) → g (f s) ≡ s)
    → Undone (Bytes 16) (λ b. bytes_of (f (words_of 4 b))) (λ b. bytes_of (g (words_of 4 b)))
undoes_bytes f g kept back =
    record {
      keeps = λ b h. bytes_of_words (kept (words_of 4 b) (words_of_block h.below));
      back = λ b h. ap (λ (s : List ℕ). bytes_of (g s)) (block_words (kept (words_of 4 b) (words_of_block h.below)))
          ∙ ap bytes_of (back (words_of 4 b)) ∙ words_block h;
    }

module _ {w : List ℕ} (words : Below (2 ^ 32) w) where
  pub decrypt_undoes_encrypt_under : Undone (Bytes 16) (encrypt_under w) (decrypt_under w)
  unfolding encrypt_under decrypt_under
  decrypt_undoes_encrypt_under = undoes_bytes (encrypt_words w) (decrypt_words w) (λ s h. words_encrypt_words words h)
      (decrypt_encrypt_words w)

  pub encrypt_undoes_decrypt_under : Undone (Bytes 16) (decrypt_under w) (encrypt_under w)
  unfolding encrypt_under decrypt_under
  encrypt_undoes_decrypt_under = undoes_bytes (decrypt_words w) (encrypt_words w) (λ s h. words_decrypt_words words h)
      (encrypt_decrypt_words w)

module _ {key : List ℕ} (size : KeyLength (length key)) (bytes : Below 256 key) where
  pub decrypt_undoes_encrypt : Undone (Bytes 16) (encrypt key) (decrypt key)
  unfolding encrypt decrypt
  decrypt_undoes_encrypt = decrypt_undoes_encrypt_under (words_expand_key size bytes).below

  pub encrypt_undoes_decrypt : Undone (Bytes 16) (decrypt key) (encrypt key)
  unfolding encrypt decrypt
  encrypt_undoes_decrypt = encrypt_undoes_decrypt_under (words_expand_key size bytes).below
