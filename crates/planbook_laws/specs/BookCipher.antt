-- Books encrypted and decrypted by any block cipher: each call undoes the other, and two books
-- encrypted alike are alike. The checks about words and way stay open here, a list cs that is
-- passed.
use Rattle.std.specs.Prelude.{ℕ, List, ◌↔◌, ◌≡◌, refl}
use Rattle.std.proofs.Math.Path.{sym, ap, ap₂}
use Rattle.std.proofs.Common.{◌∙◌}
use Rattle.std.proofs.Math.ListN.{length}
use Rattle.clefia_spec.specs.Words.{Below}
use Rattle.clefia_laws.specs.SizedLaws.{Bytes, sized_take, sized_drop}
use Rattle.planbook_spec.specs.Outcome.{accepted, Check, judged}
use Rattle.planbook_spec.specs.OutcomeLaws.{AllPass, pass_left, pass_right, pass_tail, pass_append, judged_pass, Passed}
use Rattle.planbook_spec.specs.OutcomeLaws.{passed}
use Rattle.planbook_laws.specs.CheckLaws.{output_passes, output_size}
use Rattle.planbook_spec.specs.Book.{iv, contents, record_count, form_checks, form_and_records, as_it_is, encrypt_body}
use Rattle.planbook_spec.specs.Book.{decrypt_body, map_bodies, book_checks, encrypt_book_by, decrypt_book_by}
use Rattle.planbook_laws.specs.Undoing.{BlockCipher, Every, every_map, Through, body_encrypted, body_decrypted}
use Rattle.planbook_laws.specs.BookLaws.{Formed, formed, Shaped, shape, shaped_entries, map_bodies_length}
use Rattle.planbook_laws.specs.BookLaws.{map_bodies_contents, map_bodies_form, map_bodies_records, map_bodies_through}
use Rattle.planbook_laws.specs.BookLaws.{map_bodies_as_it_is}

-- The checks of form and records are among a book's checks.
book_form : (cs : List Check) (kind : ℕ) (f : List ℕ → List ℕ → List ℕ) (book out : List ℕ)
    → AllPass (book_checks cs kind f book out)
    → AllPass (form_and_records kind f book)
unfolding book_checks
book_form cs kind f book out p = pass_tail (pass_right cs _ p)

book_output : (cs : List Check) (kind : ℕ) (f : List ℕ → List ℕ → List ℕ) (book out : List ℕ)
    → AllPass (book_checks cs kind f book out) → length out ≡ length book
unfolding book_checks
book_output cs kind f book out p = output_size out (pass_right cs _ p)

pub book_formed : (cs : List Check) (kind : ℕ) (f : List ℕ → List ℕ → List ℕ) (book out : List ℕ)
    → AllPass (book_checks cs kind f book out) → Formed book
book_formed cs kind f book out p = formed kind book
    (pass_left (form_checks kind book) _ (book_form cs kind f book out p))

-- A book that one call accepts has its shape.
book_shape : (cs : List Check) (kind : ℕ) (f : List ℕ → List ℕ → List ℕ) (book out : List ℕ) → Below 256 book
    → AllPass (book_checks cs kind f book out)
    → Shaped kind book
book_shape cs kind f book out r p = shape kind book r
    (pass_left (form_checks kind book) _ (book_form cs kind f book out p))

-- One call applies f to the bodies and looks at the records after h. The other applies k and looks
-- at them after g. Where g after f is h, and k after f changes nothing, the other call accepts what
-- the one has made, and gives the book back.
module _ {f g h k : List ℕ → List ℕ → List ℕ} (kind kind' : ℕ) (cs cs' : List Check) (book out out' : List ℕ) where
  comes_back : Below 256 book
      → AllPass (book_checks cs kind h book out)
      → Every (Through f g h) (contents book)
      → Every (Through f k as_it_is) (contents book)
      → AllPass cs'
      → length out' ≡ length book
      → judged (book_checks cs' kind' g (map_bodies kind' f book) out')
      (accepted (record_count (contents (map_bodies kind' f book))) (map_bodies kind k (map_bodies kind' f book)))
      ≡ accepted (record_count (contents book)) book
  unfolding book_checks
  comes_back r p t u q e =
      let s : Shaped kind book = book_shape cs kind h book out r p in
      let again : AllPass (form_and_records kind' g (map_bodies kind' f book)) =
      rw (map_bodies_form kind kind' s t, map_bodies_records kind kind' s t) (book_form cs kind h book out p) in
      judged_pass (pass_append q (pass_append (output_passes _ out' (e
      ∙ sym (map_bodies_length kind kind' s t))) again))
      _
      ∙ ap₂ accepted (ap record_count (map_bodies_contents kind kind' s t))
      (map_bodies_through kind kind' s u ∙ map_bodies_as_it_is s)

pub iv_bytes : (e : List ℕ) → Bytes 24 e → Bytes 16 (iv e)
iv_bytes e b = sized_take 16 0 (sized_drop 8 16 b refl) refl

module _ (E D : List ℕ → List ℕ) (block : BlockCipher E D) where
  pub entries_encrypted : {kind : ℕ} {book : List ℕ} → Shaped kind book
      → Every (Through (encrypt_body E) (decrypt_body D) as_it_is) (contents book)
  entries_encrypted s = every_map (λ e b. body_encrypted E D block e (iv_bytes e b)) (shaped_entries s)

  pub entries_decrypted : {kind : ℕ} {book : List ℕ} → Shaped kind book
      → Every (Through (decrypt_body D) (encrypt_body E) as_it_is) (contents book)
  entries_decrypted s = every_map (λ e b. body_decrypted E D block e (iv_bytes e b)) (shaped_entries s)

  -- Decrypted, and then looked at as it is.
  entries_as_decrypted : {kind : ℕ} {book : List ℕ} → Shaped kind book
      → Every (Through (decrypt_body D) as_it_is (decrypt_body D)) (contents book)
  entries_as_decrypted s = every_map (λ e t. record { keeps = t.keeps; meets = λ x b. refl }) (entries_decrypted s)

  pub encrypted_decrypts : (cs cs' : List Check) (book out out' : List ℕ) {n : ℕ} {bs : List ℕ} → Below 256 book
      → encrypt_book_by cs E book out ≡ accepted n bs → AllPass cs' → length out' ≡ length book
      → decrypt_book_by cs' D bs out' ≡ accepted n book
  unfolding encrypt_book_by decrypt_book_by
  encrypted_decrypts cs cs' book out out' {n} {bs} r a q e =
      let p : Passed (book_checks cs 1 as_it_is book out) _ n _ bs = passed _ _ _ a in
      let s : Shaped 1 book = book_shape cs 1 as_it_is book out r p.checks in
      rw (← p.same_bytes, ← p.same_count) (comes_back 1 2 cs cs' book out out' r p.checks (entries_encrypted s)
      (entries_encrypted s) q e)

  pub decrypted_encrypts : (cs cs' : List Check) (book out out' : List ℕ) {n : ℕ} {bs : List ℕ} → Below 256 book
      → decrypt_book_by cs D book out ≡ accepted n bs → AllPass cs' → length out' ≡ length book
      → encrypt_book_by cs' E bs out' ≡ accepted n book
  unfolding encrypt_book_by decrypt_book_by
  decrypted_encrypts cs cs' book out out' {n} {bs} r a q e =
      let p : Passed (book_checks cs 2 (decrypt_body D) book out) _ n _ bs = passed _ _ _ a in
      let s : Shaped 2 book = book_shape cs 2 (decrypt_body D) book out r p.checks in
      rw (← p.same_bytes, ← p.same_count) (comes_back 2 1 cs cs' book out out' r p.checks (entries_as_decrypted s)
      (entries_decrypted s) q e)

  -- What an accepted call gives is the book with its bodies encrypted or decrypted.
  pub encrypted_is : (cs : List Check) (book out : List ℕ) {n : ℕ} {bs : List ℕ}
      → encrypt_book_by cs E book out ≡ accepted n bs → bs ≡ map_bodies 2 (encrypt_body E) book
  unfolding encrypt_book_by
  encrypted_is cs book out a = sym (passed _ _ _ a).same_bytes

  -- Two encrypted books are equal exactly where the clear ones are, whichever checks about words
  -- and way were passed.
  pub encrypted_alike : (cs cs' : List Check) (a b out out' : List ℕ) {m n : ℕ} {x y : List ℕ} → Below 256 a
      → Below 256 b
      → encrypt_book_by cs E a out ≡ accepted m x → encrypt_book_by cs' E b out' ≡ accepted n y → (x ≡ y) ↔ (a ≡ b)
  unfolding encrypt_book_by
  encrypted_alike cs cs' a b out out' {m} {n} {x} {y} ra rb pa pb =
      let p : Passed (book_checks cs 1 as_it_is a out) _ m _ x = passed _ _ _ pa in
      let q : Passed (book_checks cs' 1 as_it_is b out') _ n _ y = passed _ _ _ pb in
      let s : Shaped 1 a = book_shape cs 1 as_it_is a out ra p.checks in
      let t : Shaped 1 b = book_shape cs' 1 as_it_is b out' rb q.checks in
      let fromX : map_bodies 1 (decrypt_body D) x ≡ a =
      ap (map_bodies 1 (decrypt_body D)) (sym p.same_bytes) ∙ map_bodies_through 1 2 s (entries_encrypted s)
      ∙ map_bodies_as_it_is s in
      let fromY : map_bodies 1 (decrypt_body D) y ≡ b =
      ap (map_bodies 1 (decrypt_body D)) (sym q.same_bytes) ∙ map_bodies_through 1 2 t (entries_encrypted t)
      ∙ map_bodies_as_it_is t in (
        λ e. sym fromX ∙ ap (map_bodies 1 (decrypt_body D)) e ∙ fromY,
        λ e. sym p.same_bytes
            ∙ ap (map_bodies 2 (encrypt_body E)) e ∙ q.same_bytes,
      )

  -- The book that an accepted call gives is as long as the given output.
  pub encrypted_length : (cs : List Check) (book out : List ℕ) {n : ℕ} {bs : List ℕ} → Below 256 book
      → encrypt_book_by cs E book out ≡ accepted n bs → length bs ≡ length out
  unfolding encrypt_book_by
  encrypted_length cs book out {n} {bs} r a =
      let p : Passed (book_checks cs 1 as_it_is book out) _ n _ bs = passed _ _ _ a in
      let s : Shaped 1 book = book_shape cs 1 as_it_is book out r p.checks in
      ap length (sym p.same_bytes) ∙ map_bodies_length 1 2 s (entries_encrypted s)
      ∙ sym (book_output cs 1 as_it_is book out p.checks)

  pub decrypted_length : (cs : List Check) (book out : List ℕ) {n : ℕ} {bs : List ℕ} → Below 256 book
      → decrypt_book_by cs D book out ≡ accepted n bs → length bs ≡ length out
  unfolding decrypt_book_by
  decrypted_length cs book out {n} {bs} r a =
      let p : Passed (book_checks cs 2 (decrypt_body D) book out) _ n _ bs = passed _ _ _ a in
      let s : Shaped 2 book = book_shape cs 2 (decrypt_body D) book out r p.checks in
      ap length (sym p.same_bytes) ∙ map_bodies_length 2 1 s (entries_decrypted s)
      ∙ sym (book_output cs 2 (decrypt_body D) book out p.checks)
