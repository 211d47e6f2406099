-- A function and the one that undoes it: chains of blocks, the bodies of a book. One notion,
-- Undone, serves all of them, in both directions.
use Prim.Native.Nat.{ℕ, zero, suc, ◌*◌}
use mathlib.Core.List.{List, [], ◌∷◌, ◌++◌}
use Rattle.std.specs.Prelude.{◌≡◌, length, take, drop}
use Rattle.std.proofs.Math.Path.{refl}
use Rattle.std.proofs.Common.{arith, take-append-drop}
use Rattle.std.proofs.Math.Seq.{take_at, drop_at}
use Rattle.clefia_spec.specs.Words.{xors, none}
use Rattle.clefia_laws.specs.DigitLaws.{xors_cancel}
use Rattle.clefia_laws.specs.SizedLaws.{Bytes, sized_append, sized_take, sized_drop, sized_xors, Undone}
use Rattle.planbook_spec.specs.Book.{count, iv, record_count, each_body, sheets_hold, as_it_is, cbc_encrypt, cbc_decrypt}
use Rattle.planbook_spec.specs.Book.{encrypt_body, decrypt_body}

-- E and D encrypt and decrypt blocks of 16 bytes: each undoes the other.
pub record BlockCipher (E D : List ℕ → List ℕ) : Type 0 where
  pub encrypted : Undone (Bytes 16) E D
  pub decrypted : Undone (Bytes 16) D E

-- ---- chains

-- Of a chain: its first block c, and then the rest.
one_more : (n : ℕ) {c rest : List ℕ} → Bytes 16 c → Bytes (16 * n) rest → Bytes (16 * suc n) (c ++ rest)
one_more n p q = sized_append 16 (16 * n) p q (omega arith)

pub first_block : (n : ℕ) {bs : List ℕ} → Bytes (16 * suc n) bs → Bytes 16 (take 16 bs)
first_block n b = sized_take 16 (16 * n) b (omega arith)

pub other_blocks : (n : ℕ) {bs : List ℕ} → Bytes (16 * suc n) bs → Bytes (16 * n) (drop 16 bs)
other_blocks n b = sized_drop 16 (16 * n) b (omega arith)

pub empty : (bs : List ℕ) → Bytes (16 * zero) bs → [] ≡ bs
empty [] b = refl
empty (x ∷ bs) b = let s : suc (length bs) ≡ 0 = b.size in absurd (omega arith)

module _ (E D : List ℕ → List ℕ) (block : BlockCipher E D) where
  cbc_encrypt_keeps : (n : ℕ) (p bs : List ℕ) → Bytes 16 p → Bytes (16 * n) bs → Bytes (16 * n) (cbc_encrypt E n p bs)
  unfolding cbc_encrypt
  cbc_encrypt_keeps zero p bs i b = record { size = refl; below = none }
  cbc_encrypt_keeps (suc n) p bs i b =
      let c : Bytes 16 (E (xors p (take 16 bs))) =
      block.encrypted.keeps (xors p (take 16 bs)) (sized_xors 8 i (first_block n b)) in
      one_more n c (cbc_encrypt_keeps n (E (xors p (take 16 bs))) (drop 16 bs) c (other_blocks n b))

  cbc_decrypt_keeps : (n : ℕ) (p bs : List ℕ) → Bytes 16 p → Bytes (16 * n) bs → Bytes (16 * n) (cbc_decrypt D n p bs)
  unfolding cbc_decrypt
  cbc_decrypt_keeps zero p bs i b = record { size = refl; below = none }
  cbc_decrypt_keeps (suc n) p bs i b =
      one_more n (sized_xors 8 i (block.decrypted.keeps (take 16 bs) (first_block n b)))
      (cbc_decrypt_keeps n (take 16 bs) (drop 16 bs) (first_block n b) (other_blocks n b))

  cbc_encrypt_back : (n : ℕ) (p bs : List ℕ) → Bytes 16 p → Bytes (16 * n) bs
      → cbc_decrypt D n p (cbc_encrypt E n p bs) ≡ bs
  unfolding cbc_encrypt cbc_decrypt
  cbc_encrypt_back zero p bs i b = empty bs b
  cbc_encrypt_back (suc n) p bs i b =
      let x : List ℕ = xors p (take 16 bs) in
      let bx : Bytes 16 x = sized_xors 8 i (first_block n b) in
      let c : Bytes 16 (E x) = block.encrypted.keeps x bx in
      let rest : List ℕ = cbc_encrypt E n (E x) (drop 16 bs) in
      rw (
        take_at (E x) rest 16 c.size,
        drop_at (E x) rest 16 c.size,
        block.encrypted.back x bx,
        xors_cancel p (take 16 bs),
        cbc_encrypt_back n (E x) (drop 16 bs) c (other_blocks n b),
      )
      (take-append-drop 16 bs)

  cbc_decrypt_back : (n : ℕ) (p bs : List ℕ) → Bytes 16 p → Bytes (16 * n) bs
      → cbc_encrypt E n p (cbc_decrypt D n p bs) ≡ bs
  unfolding cbc_encrypt cbc_decrypt
  cbc_decrypt_back zero p bs i b = empty bs b
  cbc_decrypt_back (suc n) p bs i b =
      let c : Bytes 16 (take 16 bs) = first_block n b in
      let x : List ℕ = D (take 16 bs) in
      let y : Bytes 16 (xors p x) = sized_xors 8 i (block.decrypted.keeps (take 16 bs) c) in
      let rest : List ℕ = cbc_decrypt D n (take 16 bs) (drop 16 bs) in
      rw (
        take_at (xors p x) rest 16 y.size,
        drop_at (xors p x) rest 16 y.size,
        xors_cancel p x,
        block.decrypted.back (take 16 bs) c,
        cbc_decrypt_back n (take 16 bs) (drop 16 bs) c (other_blocks n b),
      )
      (take-append-drop 16 bs)

  -- A chain of n blocks after p, both ways.
  pub cbc_encrypted : (n : ℕ) (p : List ℕ) → Bytes 16 p → Undone (Bytes (16 * n)) (cbc_encrypt E n p)
      (cbc_decrypt D n p)
  cbc_encrypted n p i = record {
    keeps = λ bs b. cbc_encrypt_keeps n p bs i b;
    back =
        λ bs b. cbc_encrypt_back n p bs i b;
  }

  pub cbc_decrypted : (n : ℕ) (p : List ℕ) → Bytes 16 p → Undone (Bytes (16 * n)) (cbc_decrypt D n p)
      (cbc_encrypt E n p)
  cbc_decrypted n p i = record {
    keeps = λ bs b. cbc_decrypt_keeps n p bs i b;
    back =
        λ bs b. cbc_decrypt_back n p bs i b;
  }

-- ---- bodies

-- Every entry of the contents has P.
pub data Every (P : List ℕ → Type 0) : List (List ℕ) → Type 0 where
  nothing : Every P []
  both : {e : List ℕ} {es : List (List ℕ)} → P e → Every P es → Every P (e ∷ es)

pub every_map : {P Q : List ℕ → Type 0} → ((e : List ℕ) → P e → Q e) → {es : List (List ℕ)} → Every P es → Every Q es
every_map f nothing = nothing
every_map f (both {e = e} p r) = both (f e p) (every_map f r)

-- f applied to a body, and then g, comes to h, at the entry e; and f keeps the length of a body and
-- its bytes below 256.
pub record Through (f g h : List ℕ → List ℕ → List ℕ) (e : List ℕ) : Type 0 where
  pub keeps : (x : List ℕ) → Bytes (16 * count e) x → Bytes (16 * count e) (f e x)
  pub meets : (x : List ℕ) → Bytes (16 * count e) x → g e (f e x) ≡ h e x

pub first_body : (e : List ℕ) (es : List (List ℕ)) {bs : List ℕ} → Bytes (16 * record_count (e ∷ es)) bs
    → Bytes (16 * count e) (take (16 * count e) bs)
unfolding record_count
first_body e es b = sized_take (16 * count e) (16 * record_count es) b (omega arith)

pub other_bodies : (e : List ℕ) (es : List (List ℕ)) {bs : List ℕ} → Bytes (16 * record_count (e ∷ es)) bs
    → Bytes (16 * record_count es) (drop (16 * count e) bs)
unfolding record_count
other_bodies e es b = sized_drop (16 * count e) (16 * record_count es) b (omega arith)

-- Bodies left as they are.
pub each_as_it_is : (es : List (List ℕ)) (bs : List ℕ) → Bytes (16 * record_count es) bs → each_body as_it_is es bs ≡ bs
unfolding each_body record_count
each_as_it_is [] bs b = empty bs b
each_as_it_is (e ∷ es) bs b =
    rw (each_as_it_is es (drop (16 * count e) bs) (other_bodies e es b)) (take-append-drop (16 * count e) bs)

module _ {f g h : List ℕ → List ℕ → List ℕ} where
  pub each_keeps : {es : List (List ℕ)} → Every (Through f g h) es → (bs : List ℕ) → Bytes (16 * record_count es) bs
      → Bytes (16 * record_count es) (each_body f es bs)
  unfolding each_body record_count
  each_keeps nothing bs b = record { size = refl; below = none }
  each_keeps (both {e = e} {es = es} t r) bs b =
      sized_append (16 * count e) (16 * record_count es) (t.keeps _ (first_body e es b))
      (each_keeps r _ (other_bodies e es b)) (omega arith)

  -- The first body after f and the others, cut apart again.
  crypted_first : (e : List ℕ) (es : List (List ℕ)) (bs : List ℕ) → Through f g h e
      → Bytes (16 * record_count (e ∷ es)) bs
      → take (16 * count e) (each_body f (e ∷ es) bs) ≡ f e (take (16 * count e) bs)
  unfolding each_body
  crypted_first e es bs t b = take_at _ _ (16 * count e) (t.keeps _ (first_body e es b)).size

  crypted_others : (e : List ℕ) (es : List (List ℕ)) (bs : List ℕ) → Through f g h e
      → Bytes (16 * record_count (e ∷ es)) bs
      → drop (16 * count e) (each_body f (e ∷ es) bs) ≡ each_body f es (drop (16 * count e) bs)
  unfolding each_body
  crypted_others e es bs t b = drop_at (f e (take (16 * count e) bs)) _ (16 * count e)
      (t.keeps _ (first_body e es b)).size

  pub each_through : {es : List (List ℕ)} → Every (Through f g h) es → (bs : List ℕ) → Bytes (16 * record_count es) bs
      → each_body g es (each_body f es bs) ≡ each_body h es bs
  unfolding each_body
  each_through nothing bs b = refl
  each_through (both {e = e} {es = es} t r) bs b =
      rw (
        crypted_first e es bs t b,
        crypted_others e es bs t b,
        t.meets _ (first_body e es b),
        each_through r _ (other_bodies e es b),
      )

  -- A rule of the records, looked at after f and then g, is the rule looked at after h.
  pub sheets_through : {es : List (List ℕ)} → Every (Through f g h) es → (bs : List ℕ) → Bytes (16 * record_count es) bs
      → sheets_hold g es (each_body f es bs) ≡ sheets_hold h es bs
  unfolding sheets_hold
  sheets_through nothing bs b = refl
  sheets_through (both {e = e} {es = es} t r) bs b =
      rw (
        crypted_first e es bs t b,
        crypted_others e es bs t b,
        t.meets _ (first_body e es b),
        sheets_through r _ (other_bodies e es b),
      )

module _ (E D : List ℕ → List ℕ) (block : BlockCipher E D) where
  pub body_encrypted : (e : List ℕ) → Bytes 16 (iv e) → Through (encrypt_body E) (decrypt_body D) as_it_is e
  unfolding encrypt_body decrypt_body
  body_encrypted e i = let u : Undone (Bytes (16 * count e)) _ _ = cbc_encrypted E D block (count e) (iv e) i in
      record { keeps = u.keeps; meets = u.back }

  pub body_decrypted : (e : List ℕ) → Bytes 16 (iv e) → Through (decrypt_body D) (encrypt_body E) as_it_is e
  unfolding encrypt_body decrypt_body
  body_decrypted e i = let u : Undone (Bytes (16 * count e)) _ _ = cbc_decrypted E D block (count e) (iv e) i in
      record { keeps = u.keeps; meets = u.back }
