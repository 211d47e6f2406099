-- Numbers, their digits, and lists of words. A byte is a number below 2 ^ 8, a word one below
-- 2 ^ 32. The first byte or bit is always the highest.
use Rattle.std.specs.Prelude.{ℕ, zero, suc, ◌+◌, ◌-◌, ◌*◌, ◌/◌, ◌%◌, ◌^◌, ◌<◌, Bool, true, false, List, [], ◌∷◌, ◌++◌, eqb, length, get_or, take, drop}
use Rattle.std.specs.Int.Bits.{bit_xor}

infixl 69 ◌⊕◌
-- Exclusive or, bit by bit. Comments call it adding.
abbrev pub ◌⊕◌ : ℕ → ℕ → ℕ
◌⊕◌ = bit_xor

-- Every bit of a number of w bits inverted.
unfoldable pub complement : ℕ → ℕ → ℕ
complement w x = 2 ^ w - 1 - x

-- A number of w bits rotated left by k bits.
unfoldable pub rotate : ℕ → ℕ → ℕ → ℕ
rotate w k x = x * 2 ^ k % 2 ^ w + x / 2 ^ (w - k)

-- The number that these digits write in base b.
unfoldable pub from_digits : ℕ → List ℕ → ℕ
from_digits b [] = 0
from_digits b (d ∷ ds) = d * b ^ length ds + from_digits b ds

-- The last k digits of n in base b.
unfoldable pub to_digits : ℕ → ℕ → ℕ → List ℕ
to_digits b zero n = []
to_digits b (suc k) n = n / b ^ k % b ∷ to_digits b k n

-- Each number as k digits in base b, joined in one list.
unfoldable pub digits_of : ℕ → ℕ → List ℕ → List ℕ
digits_of b k [] = []
digits_of b k (n ∷ ns) = to_digits b k n ++ digits_of b k ns

-- The first n numbers, of k digits each, in a list of digits.
unfoldable pub numbers_of : ℕ → ℕ → ℕ → List ℕ → List ℕ
numbers_of b k zero ds = []
numbers_of b k (suc n) ds = from_digits b (take k ds) ∷ numbers_of b k n (drop k ds)

-- The four bytes of each word.
abbrev pub bytes_of : List ℕ → List ℕ
bytes_of = digits_of 256 4

-- The first n words of a list of bytes.
abbrev pub words_of : ℕ → List ℕ → List ℕ
words_of = numbers_of 256 4

-- The four words from place i of a list on.
unfoldable pub four_at : List ℕ → ℕ → List ℕ
four_at w i = get_or w i 0 ∷ get_or w (i + 1) 0 ∷ get_or w (i + 2) 0 ∷ get_or w (i + 3) 0 ∷ []

-- A mask added to a list, place by place. Where the mask is shorter, the rest of the list stays.
unfoldable pub xors : List ℕ → List ℕ → List ℕ
xors [] ys = ys
xors (x ∷ xs) [] = []
xors (x ∷ xs) (y ∷ ys) = x ⊕ y ∷ xors xs ys

-- The first of two values where a test passed, else the second.
abbrev pub choose {ℓ} : {A : Type ℓ} → Bool → A → A → A
choose true a b = a
choose false a b = b

-- One of three values, for keys of 16, 24 and 32 bytes.
abbrev pub by_key_length {ℓ} : {A : Type ℓ} → ℕ → A → A → A → A
by_key_length n a b c = choose (eqb n 16) a (choose (eqb n 24) b c)

-- A permitted length of a key, in bytes.
pub data KeyLength : ℕ → Type 0 where
  sixteen : KeyLength 16
  twenty_four : KeyLength 24
  thirty_two : KeyLength 32

-- Every number of the list is below b: with 2 ^ 8 a list of bytes, with 2 ^ 32 a list of words.
pub data Below (b : ℕ) : List ℕ → Type 0 where
  none : Below b []
  more : {x : ℕ} {xs : List ℕ} → x < b → Below b xs → Below b (x ∷ xs)
