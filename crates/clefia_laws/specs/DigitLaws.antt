-- Digits and numbers, both ways, over any base and any number of digits: bytes of words and bits of
-- words alike.
use Prim.Native.Nat.{ℕ, zero, suc, ◌+◌, ◌*◌, ◌/◌, ◌%◌, ◌^◌, ◌<◌, ◌≤◌, ◌-◌, min, zero-le, suc-le-suc}
use Rattle.std.specs.Prelude.{◌≡◌, get_or, take, drop}
use Rattle.std.proofs.Math.Path.{refl, sym, ap, ap₂, subst}
use Rattle.std.proofs.Common.{◌∙◌, le_of_suc-le-suc, pow-suc, mul_assoc, mod-lt, add_comm, add-suc, suc-add, zero-add, lt_of_lt_of_le, zero-lt-suc, mul-pos, not-suc-le-zero, le_of_eq, mul-zero, mul-suc, arith, pow-add, pow_pos, length-append, length-drop, take_at, drop_at}
use mathlib.Core.List.{List, [], ◌∷◌, ◌++◌}
use Rattle.std.proofs.Math.Nat.{pow-zero, pow-succ', mod-one, mod-eq_of_lt, add-mul-div_right, mul-add-mod_self_right, suc-mul, zero-mul, pow-le-pow_right, suc_inj}
use Rattle.std.proofs.Math.Arith.{digits_lt, digits_div, mod-mul}
use Rattle.std.proofs.lemmas.Nat.{xor_block, xor_shr, xor_lt}
use Rattle.std.specs.Int.Bits.{xor_mod}
use Rattle.std.proofs.Math.ListN.{length, length-take, take-append-drop}
use Rattle.clefia_laws.specs.XorLaws.{xor_cancel_left}
use Rattle.clefia_spec.specs.Words.{◌⊕◌, from_digits, to_digits, digits_of, numbers_of, xors, Below, none, more}

-- ---- lists whose numbers are below a bound

pub below_append : {b : ℕ} {xs ys : List ℕ} → Below b xs → Below b ys → Below b (xs ++ ys)
below_append none s = s
below_append (more h r) s = more h (below_append r s)

pub below_take : {b : ℕ} (n : ℕ) {xs : List ℕ} → Below b xs → Below b (take n xs)
below_take zero r = none
below_take (suc n) none = none
below_take (suc n) (more h r) = more h (below_take n r)

pub below_drop : {b : ℕ} (n : ℕ) {xs : List ℕ} → Below b xs → Below b (drop n xs)
below_drop zero r = r
below_drop (suc n) none = none
below_drop (suc n) (more h r) = below_drop n r

-- at each place, and from all places; past the end it is 0
pub below_get_d : {b : ℕ} {xs : List ℕ} → zero < b → Below b xs → (i : ℕ) → get_or xs i 0 < b
below_get_d pos none i = pos
below_get_d pos (more h r) zero = h
below_get_d pos (more h r) (suc i) = below_get_d pos r i

pub below_all : {b : ℕ} (xs : List ℕ) → ((i : ℕ) → i < length xs → get_or xs i 0 < b) → Below b xs
below_all [] f = none
below_all (x ∷ xs) f = more (f zero (suc-le-suc zero-le)) (below_all xs (λ i h. f (suc i) (suc-le-suc h)))

-- ---- lengths

pub length_to_digits : (b k n : ℕ) → length (to_digits b k n) ≡ k
unfolding to_digits
length_to_digits b zero n = refl
length_to_digits b (suc k) n = ap suc (length_to_digits b k n)

pub length_digits_of : (b k : ℕ) (ns : List ℕ) → length (digits_of b k ns) ≡ length ns * k
unfolding digits_of
length_digits_of b k [] = sym (zero-mul k)
length_digits_of b k (n ∷ ns) =
    length-append (to_digits b k n) (digits_of b k ns) ∙ ap₂ ◌+◌ (length_to_digits b k n) (length_digits_of b k ns)
    ∙ add_comm k (length ns * k) ∙ sym (suc-mul (length ns) k)

pub length_numbers_of : (b k n : ℕ) (ds : List ℕ) → length (numbers_of b k n ds) ≡ n
unfolding numbers_of
length_numbers_of b k zero ds = refl
length_numbers_of b k (suc n) ds = ap suc (length_numbers_of b k n (drop k ds))

-- ---- bounds

module _ {b : ℕ} (pos : zero < b) where
  power_pos : (k : ℕ) → zero < b ^ k
  power_pos zero = subst (λ (x : ℕ). zero < x) (sym (pow-zero b)) (zero-lt-suc zero)
  power_pos (suc k) =
      subst (λ (x : ℕ). zero < x) (sym (pow-suc b k)) (mul-pos (power_pos k) pos)

  pub below_to_digits : (k n : ℕ) → Below b (to_digits b k n)
  unfolding to_digits
  below_to_digits zero n = none
  below_to_digits (suc k) n = more (mod-lt (n / b ^ k) pos) (below_to_digits k n)

  pub from_digits_lt : {ds : List ℕ} → Below b ds → from_digits b ds < b ^ length ds
  unfolding from_digits
  from_digits_lt none = power_pos 0
  from_digits_lt (more {x = x} {xs = xs} h r) =
      subst (λ (m : ℕ). x * b ^ length xs + from_digits b xs < m) (sym (pow-succ' b (length xs)))
      (digits_lt h (from_digits_lt r))

  -- ---- to digits and back

  pub from_to : (k n : ℕ) → from_digits b (to_digits b k n) ≡ n % b ^ k
  unfolding from_digits to_digits
  from_to zero n = sym (ap (λ (m : ℕ). n % m) (pow-zero b) ∙ mod-one n)
  from_to (suc k) n =
      ap₂ (λ (x y : ℕ). n / b ^ k % b * b ^ x + y) (length_to_digits b k n) (from_to k n)
      ∙ sym (ap (λ (m : ℕ). n % m) (pow-succ' b k) ∙ mod-mul n pos (power_pos k))

  -- digits look at the last places only
  high_digits : (k m q r : ℕ) → to_digits b k (q * b ^ (m + k) + r) ≡ to_digits b k r
  unfolding to_digits
  high_digits zero m q r = refl
  high_digits (suc k) m q r =
      ap₂ (λ (x : ℕ) (y : List ℕ). x ∷ y) head
      (ap (λ (e : ℕ). to_digits b k (q * b ^ e + r)) (add-suc m k ∙ sym (suc-add m k)) ∙ high_digits k (suc m) q r)
    where
      power : q * b ^ (m + suc k) ≡ q * b ^ m * b * b ^ k
      power =
          ap (λ (e : ℕ). q * b ^ e) (add-suc m k ∙ sym (suc-add m k))
          ∙ ap (λ (x : ℕ). q * x) (pow-add b (suc m) k ∙ ap (λ (x : ℕ). x * b ^ k) (pow-suc b m))
          ∙ sym (mul_assoc q (b ^ m * b) (b ^ k)) ∙ ap (λ (x : ℕ). x * b ^ k) (sym (mul_assoc q (b ^ m) b))

      head : (q * b ^ (m + suc k) + r) / b ^ k % b ≡ r / b ^ k % b
      head =
          ap (λ (x : ℕ). (x + r) / b ^ k % b) power
          ∙ ap (λ (x : ℕ). x / b ^ k % b) (add_comm (q * b ^ m * b * b ^ k) r)
          ∙ ap (λ (x : ℕ). x % b) (add-mul-div_right r (q * b ^ m * b) (power_pos k)
          ∙ add_comm (r / b ^ k) (q * b ^ m * b))
          ∙ mul-add-mod_self_right (q * b ^ m) b (r / b ^ k)

  pub to_from : {ds : List ℕ} → Below b ds → to_digits b (length ds) (from_digits b ds) ≡ ds
  unfolding from_digits to_digits
  to_from none = refl
  to_from (more {x = x} {xs = xs} h r) =
      ap₂ (λ (d : ℕ) (l : List ℕ). d ∷ l)
      (ap (λ (d : ℕ). d % b) (digits_div x (from_digits_lt r)) ∙ mod-eq_of_lt h)
      (ap (λ (e : ℕ). to_digits b (length xs) (x * b ^ e + from_digits b xs)) (sym (zero-add (length xs)))
      ∙ high_digits (length xs) 0 x (from_digits b xs) ∙ to_from r)

  -- ---- lists of numbers, apart and together

  pub numbers_digits : (k : ℕ) {ns : List ℕ} → Below (b ^ k) ns → numbers_of b k (length ns) (digits_of b k ns) ≡ ns
  unfolding numbers_of digits_of
  numbers_digits k none = refl
  numbers_digits k (more {x = x} {xs = xs} h r) =
      ap₂ (λ (d : ℕ) (l : List ℕ). d ∷ l)
      (ap (from_digits b) (take_at (to_digits b k x) (digits_of b k xs) k (length_to_digits b k x)) ∙ from_to k x
      ∙ mod-eq_of_lt h)
      (ap (numbers_of b k (length xs)) (drop_at (to_digits b k x) (digits_of b k xs) k (length_to_digits b k x))
      ∙ numbers_digits k r)

  pub below_digits_of : (k : ℕ) (ns : List ℕ) → Below b (digits_of b k ns)
  unfolding digits_of
  below_digits_of k [] = none
  below_digits_of k (n ∷ ns) = below_append (below_to_digits k n) (below_digits_of k ns)

  pub digits_numbers : (k n : ℕ) (ds : List ℕ) → Below b ds → length ds ≡ n * k
      → digits_of b k (numbers_of b k n ds) ≡ ds
  unfolding numbers_of digits_of
  digits_numbers k zero [] r e = refl
  digits_numbers k zero (d ∷ ds) r e = absurd (not-suc-le-zero (le_of_eq (e ∙ zero-mul k)))
  digits_numbers k (suc n) ds r e =
      ap₂ ◌++◌ first (digits_numbers k n (drop k ds) (below_drop k r) rest) ∙ take-append-drop k ds
    where
      long : length ds ≡ n * k + k
      long = e ∙ suc-mul n k

      part : length (take k ds) ≡ k
      part = length-take k ds ∙ omega (arith, long)

      rest : length (drop k ds) ≡ n * k
      rest = length-drop k ds ∙ omega (arith, long)

      first : to_digits b k (from_digits b (take k ds)) ≡ take k ds
      first = ap (λ (m : ℕ). to_digits b m (from_digits b (take k ds))) (sym part) ∙ to_from (below_take k r)

  pub below_numbers_of : (k n : ℕ) {ds : List ℕ} → Below b ds → Below (b ^ k) (numbers_of b k n ds)
  unfolding numbers_of
  below_numbers_of k zero r = none
  below_numbers_of k (suc n) {ds} r =
      more (lt_of_lt_of_le (from_digits_lt (below_take k r)) (pow-le-pow_right pos short))
      (below_numbers_of k n (below_drop k r))
    where
      short : length (take k ds) ≤ k
      short = omega (arith, length-take k ds)

-- ---- exclusive or of lists

pub length_xors : (xs ys : List ℕ) → length (xors xs ys) ≡ length ys
unfolding xors
length_xors [] ys = refl
length_xors (x ∷ xs) [] = refl
length_xors (x ∷ xs) (y ∷ ys) = ap suc (length_xors xs ys)

pub get_d_xors : (xs ys : List ℕ) (i : ℕ) → i < length xs → i < length ys
    → get_or (xors xs ys) i 0 ≡ get_or xs i 0 ⊕ get_or ys i 0
unfolding xors
get_d_xors [] ys i h k = absurd (not-suc-le-zero h)
get_d_xors (x ∷ xs) [] i h k = absurd (not-suc-le-zero k)
get_d_xors (x ∷ xs) (y ∷ ys) zero h k = refl
get_d_xors (x ∷ xs) (y ∷ ys) (suc i) h k = get_d_xors xs ys i (le_of_suc-le-suc h) (le_of_suc-le-suc k)

-- a mask added twice cancels
pub xors_cancel : (xs ys : List ℕ) → xors xs (xors xs ys) ≡ ys
unfolding xors
xors_cancel [] ys = refl
xors_cancel (x ∷ xs) [] = refl
xors_cancel (x ∷ xs) (y ∷ ys) = ap₂ (λ (d : ℕ) (l : List ℕ). d ∷ l) (xor_cancel_left x y) (xors_cancel xs ys)

pub below_xors : (k : ℕ) {xs ys : List ℕ} → Below (2 ^ k) xs → Below (2 ^ k) ys → Below (2 ^ k) (xors xs ys)
unfolding xors
below_xors k none s = s
below_xors k (more h r) none = none
below_xors k (more {x = x} h r) (more {x = y} l s) = more (xor_lt k x y h l) (below_xors k r s)

pub xors_append : (xs bs cs ds : List ℕ) → length xs ≡ length cs → xors (xs ++ bs) (cs ++ ds) ≡ xors xs cs ++ xors bs ds
unfolding xors
xors_append [] bs [] ds e = refl
xors_append [] bs (c ∷ cs) ds e = absurd (not-suc-le-zero (le_of_eq (sym e)))
xors_append (a ∷ xs) bs [] ds e = absurd (not-suc-le-zero (le_of_eq e))
xors_append (a ∷ xs) bs (c ∷ cs) ds e = ap (λ (l : List ℕ). a ⊕ c ∷ l) (xors_append xs bs cs ds (suc_inj e))

pub take_xors : (n : ℕ) (xs ys : List ℕ) → take n (xors xs ys) ≡ xors (take n xs) (take n ys)
unfolding xors
take_xors zero xs ys = refl
take_xors (suc n) [] ys = refl
take_xors (suc n) (x ∷ xs) [] = refl
take_xors (suc n) (x ∷ xs) (y ∷ ys) = ap (λ (l : List ℕ). x ⊕ y ∷ l) (take_xors n xs ys)

pub drop_xors : (n : ℕ) (xs ys : List ℕ) → drop n (xors xs ys) ≡ xors (drop n xs) (drop n ys)
unfolding xors
drop_xors zero xs ys = refl
drop_xors (suc n) [] ys = refl
drop_xors (suc n) (x ∷ xs) [] = nil (drop n xs)
  where
    nil : (l : List ℕ) → ◌≡◌ {A = List ℕ} [] (xors l [])
    nil [] = refl
    nil (a ∷ l) = refl
drop_xors (suc n) (x ∷ xs) (y ∷ ys) = drop_xors n xs ys

-- digit by digit is number by number, in a base that is a power of two
module _ (w : ℕ) where
  base : zero < 2 ^ w
  base = pow_pos w

  power_mul : (n : ℕ) → (2 ^ w) ^ n ≡ 2 ^ (w * n)
  power_mul zero = pow-zero (2 ^ w) ∙ sym (ap (λ (e : ℕ). 2 ^ e) (mul-zero w))
  power_mul (suc n) =
      pow-suc (2 ^ w) n ∙ ap (λ (x : ℕ). x * 2 ^ w) (power_mul n) ∙ sym (pow-add 2 (w * n) w)
      ∙ ap (λ (e : ℕ). 2 ^ e) (sym (mul-suc w n))

  pub from_digits_xors : {xs ys : List ℕ} → Below (2 ^ w) xs → Below (2 ^ w) ys → length xs ≡ length ys
      → from_digits (2 ^ w) (xors xs ys) ≡ from_digits (2 ^ w) xs ⊕ from_digits (2 ^ w) ys
  unfolding from_digits xors
  from_digits_xors none none e = refl
  from_digits_xors none (more h r) e = absurd (not-suc-le-zero (le_of_eq (sym e)))
  from_digits_xors (more h r) none e = absurd (not-suc-le-zero (le_of_eq e))
  from_digits_xors (more {x = x} {xs = xs} h r) (more {x = y} {xs = ys} h' r') e =
      ap₂ (λ (m n : ℕ). (x ⊕ y) * m + n)
      (ap (λ (n : ℕ). (2 ^ w) ^ n) (length_xors xs ys ∙ sym same) ∙ power_mul (length xs))
      (from_digits_xors r r' same)
      ∙ sym (xor_block (w * length xs) x y (from_digits (2 ^ w) xs) (from_digits (2 ^ w) ys) small small')
      ∙ sym (ap₂ (λ (m n : ℕ). (x * m + from_digits (2 ^ w) xs) ⊕ (y * n + from_digits (2 ^ w) ys))
      (power_mul (length xs)) (ap (λ (n : ℕ). (2 ^ w) ^ n) (sym same) ∙ power_mul (length xs)))
    where
      same : length xs ≡ length ys
      same = suc_inj e

      small : from_digits (2 ^ w) xs < 2 ^ (w * length xs)
      small = subst (λ (m : ℕ). from_digits (2 ^ w) xs < m) (power_mul (length xs)) (from_digits_lt base r)

      small' : from_digits (2 ^ w) ys < 2 ^ (w * length xs)
      small' =
          subst (λ (m : ℕ). from_digits (2 ^ w) ys < m) (ap (λ (n : ℕ). (2 ^ w) ^ n) (sym same) ∙ power_mul (length xs))
          (from_digits_lt base r')

  pub to_digits_xor : (k m n : ℕ) → to_digits (2 ^ w) k (m ⊕ n) ≡ xors (to_digits (2 ^ w) k m) (to_digits (2 ^ w) k n)
  unfolding to_digits xors
  to_digits_xor zero m n = refl
  to_digits_xor (suc k) m n = ap₂ (λ (d : ℕ) (l : List ℕ). d ∷ l) digit (to_digits_xor k m n)
    where
      digit : (m ⊕ n) / (2 ^ w) ^ k % 2 ^ w ≡ m / (2 ^ w) ^ k % 2 ^ w ⊕ n / (2 ^ w) ^ k % 2 ^ w
      digit =
          ap (λ (x : ℕ). (m ⊕ n) / x % 2 ^ w) (power_mul k)
          ∙ ap (λ (x : ℕ). x % 2 ^ w) (xor_shr m n (w * k)) ∙ xor_mod (m / 2 ^ (w * k)) (n / 2 ^ (w * k)) w
          ∙ sym (ap (λ (x : ℕ). m / x % 2 ^ w ⊕ n / x % 2 ^ w) (power_mul k))

  pub digits_of_xors : (k : ℕ) (ms ns : List ℕ) → length ms ≡ length ns
      → digits_of (2 ^ w) k (xors ms ns) ≡ xors (digits_of (2 ^ w) k ms) (digits_of (2 ^ w) k ns)
  unfolding digits_of xors
  digits_of_xors k [] [] e = refl
  digits_of_xors k [] (n ∷ ns) e = absurd (not-suc-le-zero (le_of_eq (sym e)))
  digits_of_xors k (m ∷ ms) [] e = absurd (not-suc-le-zero (le_of_eq e))
  digits_of_xors k (m ∷ ms) (n ∷ ns) e =
      ap₂ ◌++◌ (to_digits_xor k m n) (digits_of_xors k ms ns (suc_inj e))
      ∙ sym (xors_append (to_digits (2 ^ w) k m) (digits_of (2 ^ w) k ms) (to_digits (2 ^ w) k n)
      (digits_of (2 ^ w) k ns)
      (length_to_digits (2 ^ w) k m ∙ sym (length_to_digits (2 ^ w) k n)))

  pub numbers_of_xors : (k n : ℕ) {xs ys : List ℕ} → Below (2 ^ w) xs → Below (2 ^ w) ys → length xs ≡ length ys
      → numbers_of (2 ^ w) k n (xors xs ys) ≡ xors (numbers_of (2 ^ w) k n xs) (numbers_of (2 ^ w) k n ys)
  unfolding numbers_of xors
  numbers_of_xors k zero r s e = refl
  numbers_of_xors k (suc n) {xs} {ys} r s e =
      ap₂ (λ (d : ℕ) (l : List ℕ). d ∷ l)
      (ap (from_digits (2 ^ w)) (take_xors k xs ys)
      ∙ from_digits_xors (below_take k r) (below_take k s) (length-take k xs ∙ ap (min k) e ∙ sym (length-take k ys)))
      (ap (numbers_of (2 ^ w) k n) (drop_xors k xs ys)
      ∙ numbers_of_xors k n (below_drop k r) (below_drop k s)
      (length-drop k xs ∙ ap (λ (m : ℕ). m - k) e ∙ sym (length-drop k ys)))
