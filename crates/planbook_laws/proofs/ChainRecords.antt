-- The equations of CBC, record by record: record j of an encrypted body is E of record j added to
-- the encrypted record before it, or to the iv where it is the first; and so in each sheet of a
-- sealed book.
use Prim.Native.Nat.{ℕ, zero, suc, ◌+◌, ◌*◌, ◌<◌}
use mathlib.Core.List.{List, ◌++◌}
use Rattle.std.specs.Prelude.{◌≡◌, refl, length, take, drop}
use Rattle.std.proofs.Math.Path.{ap}
use Rattle.std.proofs.Common.{◌∙◌, arith, drop_at, drop-drop}
use Rattle.std.proofs.Math.Seq.{take_at}
use Rattle.clefia_spec.specs.Words.{xors, Below}
use Rattle.clefia_laws.specs.SizedLaws.{Bytes, sized_xors}
use Rattle.planbook_spec.specs.OutcomeLaws.{AllPass}
use Rattle.planbook_spec.specs.Book.{count, iv, sheet_count, sheet_entry, sheet_body, form_checks}
use Rattle.planbook_spec.specs.Book.{cbc_encrypt, cbc_decrypt, encrypt_body, decrypt_body, encrypted_book, decrypted_book}
use Rattle.planbook_spec.specs.BookSheets.{WholeSheet, on_body}
use Rattle.planbook_laws.specs.Undoing.{BlockCipher, first_block, other_blocks}
use Rattle.planbook_laws.specs.BookLaws.{formed, shape}
use Rattle.planbook_laws.specs.SheetLaws.{sheet_bytes, entry_bytes}
use Rattle.planbook_laws.specs.BookCipher.{iv_bytes, entries_encrypted, entries_decrypted}
use Rattle.planbook_laws.specs.ChainRecords.{record_at, before}
use Rattle.planbook_laws.specs.WholeSheets.{whole_sheet, sheet_mapped}

record_drop : (j : ℕ) (bs : List ℕ) → record_at (suc j) bs ≡ record_at j (drop 16 bs)
record_drop j bs = let e : 16 * suc j ≡ 16 + 16 * j = omega arith in rw (e, ← drop-drop (16 * j) 16 bs)

record_next : (j : ℕ) (c rest : List ℕ) → length c ≡ 16 → record_at (suc j) (c ++ rest) ≡ record_at j rest
record_next j c rest e = record_drop j (c ++ rest) ∙ ap (record_at j) (drop_at c rest 16 e)

before_next : (j : ℕ) (p c rest : List ℕ) → length c ≡ 16 → before (suc j) p (c ++ rest) ≡ before j c rest
unfolding before
before_next zero p c rest e = take_at c rest 16 e
before_next (suc j) p c rest e = record_next j c rest e

before_drop : (j : ℕ) (p bs : List ℕ) → before (suc j) p bs ≡ before j (take 16 bs) (drop 16 bs)
unfolding before
before_drop zero p bs = refl
before_drop (suc j) p bs = record_drop j bs

module _ (E D : List ℕ → List ℕ) (block : BlockCipher E D) where
  pub cbc_encrypted_record : (n j : ℕ) (p bs : List ℕ) → Bytes 16 p → Bytes (16 * n) bs → j < n
      → record_at j (cbc_encrypt E n p bs) ≡ E (xors (before j p (cbc_encrypt E n p bs)) (record_at j bs))
  unfolding cbc_encrypt before
  cbc_encrypted_record zero j p bs i b h = absurd (omega arith)
  cbc_encrypted_record (suc n) zero p bs i b h =
      let c : Bytes 16 (E (xors p (take 16 bs))) =
      block.encrypted.keeps (xors p (take 16 bs)) (sized_xors 8 i (first_block n b)) in
      take_at (E (xors p (take 16 bs))) _ 16 c.size
  cbc_encrypted_record (suc n) (suc j) p bs i b h =
      let x : List ℕ = xors p (take 16 bs) in
      let c : Bytes 16 (E x) = block.encrypted.keeps x (sized_xors 8 i (first_block n b)) in
      let rest : List ℕ = cbc_encrypt E n (E x) (drop 16 bs) in
      rw (record_next j (E x) rest c.size, before_next j p (E x) rest c.size, record_drop j bs)
      (cbc_encrypted_record n j (E x) (drop 16 bs) c (other_blocks n b) (omega arith))

  pub cbc_decrypted_record : (n j : ℕ) (p bs : List ℕ) → Bytes 16 p → Bytes (16 * n) bs → j < n
      → record_at j (cbc_decrypt D n p bs) ≡ xors (before j p bs) (D (record_at j bs))
  unfolding cbc_decrypt before
  cbc_decrypted_record zero j p bs i b h = absurd (omega arith)
  cbc_decrypted_record (suc n) zero p bs i b h =
      let c : Bytes 16 (xors p (D (take 16 bs))) =
      sized_xors 8 i (block.decrypted.keeps (take 16 bs) (first_block n b)) in
      take_at (xors p (D (take 16 bs))) _ 16 c.size
  cbc_decrypted_record (suc n) (suc j) p bs i b h =
      let f : Bytes 16 (take 16 bs) = first_block n b in
      let c : Bytes 16 (xors p (D (take 16 bs))) = sized_xors 8 i (block.decrypted.keeps (take 16 bs) f) in
      rw (
        record_next j (xors p (D (take 16 bs))) (cbc_decrypt D n (take 16 bs) (drop 16 bs)) c.size,
        before_drop j p bs,
        record_drop j bs,
      )
      (cbc_decrypted_record n j (take 16 bs) (drop 16 bs) f (other_blocks n b) (omega arith))

  -- The sheets of a sealed book, and of an opened one. Entries stay; each body is its own chain.
  module _ (book : List ℕ) (below : Below 256 book) (i : ℕ) (there : i < sheet_count book) where
    pub encrypted_sheet : AllPass (form_checks 1 book)
        → whole_sheet i (encrypted_book E book) ≡ on_body (encrypt_body E) (whole_sheet i book)
    unfolding encrypted_book
    encrypted_sheet p = sheet_mapped 1 2 book below p (entries_encrypted E D block (shape 1 book below p)) i there

    pub decrypted_sheet : AllPass (form_checks 2 book)
        → whole_sheet i (decrypted_book D book) ≡ on_body (decrypt_body D) (whole_sheet i book)
    unfolding decrypted_book
    decrypted_sheet p = sheet_mapped 2 1 book below p (entries_decrypted E D block (shape 2 book below p)) i there

    pub encrypted_record : AllPass (form_checks 1 book) → (j : ℕ) → j < count (sheet_entry i book)
        → let sealed : List ℕ = sheet_body i (encrypted_book E book) in
        record_at j sealed ≡ E (xors (before j (iv (sheet_entry i book)) sealed) (record_at j (sheet_body i book)))
    unfolding encrypt_body
    encrypted_record p j h =
        let s : sheet_body i (encrypted_book E book) ≡ encrypt_body E (sheet_entry i book) (sheet_body i book) =
        ap (λ (x : WholeSheet). x.body) (encrypted_sheet p) in
        rw s (cbc_encrypted_record (count (sheet_entry i book)) j (iv (sheet_entry i book)) (sheet_body i book)
        (iv_bytes (sheet_entry i book) (entry_bytes i (formed 1 book p) there below))
        (sheet_bytes i (formed 1 book p) there below) h)

    pub decrypted_record : AllPass (form_checks 2 book) → (j : ℕ) → j < count (sheet_entry i book)
        → record_at j (sheet_body i (decrypted_book D book))
        ≡ xors (before j (iv (sheet_entry i book)) (sheet_body i book)) (D (record_at j (sheet_body i book)))
    unfolding decrypt_body
    decrypted_record p j h =
        let s : sheet_body i (decrypted_book D book) ≡ decrypt_body D (sheet_entry i book) (sheet_body i book) =
        ap (λ (x : WholeSheet). x.body) (decrypted_sheet p) in
        rw s (cbc_decrypted_record (count (sheet_entry i book)) j (iv (sheet_entry i book)) (sheet_body i book)
        (iv_bytes (sheet_entry i book) (entry_bytes i (formed 2 book p) there below))
        (sheet_bytes i (formed 2 book p) there below) h)
