-- The books of past seasons. Two rules came before today's: in the first, bytes 6 and 7 of an entry
-- were both zero, and a replicate was 1 to 4; in the second, byte 6 was the number of replicates,
-- as it is today. In both a record could have any row and any column. They are written down here
-- and not in the format. The theorems say that a book with 0 in byte 6 of every entry, whose clear
-- records all keep the rule of plots, is judged, sealed and opened exactly as by the first; and
-- that whatever either accepted is accepted still, with the same count and the same bytes, where
-- its clear records keep the rule of plots, and is refused under check 11 where one does not.
use Rattle.std.specs.Prelude.{ℕ, ◌+◌, ◌*◌, Bool, true, false, ◌&&◌, ◌≡◌, refl, eqb, leb, ltb, length, get_or, take, drop}
use Rattle.std.proofs.Math.Bool.{and-true, and_comm}
use mathlib.Core.List.{List, [], ◌∷◌, ◌++◌}
use Rattle.std.proofs.Common.{sym, ◌∙◌, eqb-true}
use Rattle.std.proofs.Math.Path.{ap}
use Rattle.clefia_spec.specs.Words.{choose, Below}
use Rattle.clefia_spec.specs.Block.{encrypt, decrypt}
use Rattle.clefia_spec.specs.Cases.{both_true}
use Rattle.planbook_spec.specs.Outcome.{Outcome, refused, accepted, Check, check, judged}
use Rattle.planbook_spec.specs.OutcomeLaws.{AllPass, judged_pass, judged_append, pass_head, pass_tail, pass_left}
use Rattle.planbook_spec.specs.OutcomeLaws.{pass_right, Passed, passed}
use Rattle.planbook_spec.specs.Checks.{output_check, key_and_way}
use Rattle.planbook_laws.specs.CheckLaws.{Way, way_passes}
use Rattle.planbook_laws.specs.UnderKey.{Expanded, encrypt_book_under_key, decrypt_book_under_key}
use Rattle.planbook_spec.specs.Book.{number, pieces, trial, count, replicates, entry_holds, entries_hold, record_trial}
use Rattle.planbook_spec.specs.Book.{record_entry, record_replicate, record_row, record_column, plot_holds, record_holds}
use Rattle.planbook_spec.specs.Book.{all_records_hold, sheet_count, contents, bodies, record_count, form_checks, sheets_hold}
use Rattle.planbook_spec.specs.Book.{records_check, as_it_is, encrypt_body, decrypt_body, map_bodies, book_checks}
use Rattle.planbook_spec.specs.Book.{encrypt_book_by, decrypt_book_by, encrypt_book_call, decrypt_book_call}
use Rattle.planbook_laws.specs.Undoing.{Every, nothing, both, every_map}

-- ---- the rules of past seasons

-- In what they differ: which entries hold, given the trial before them, and the greatest replicate
-- of an entry's sheet.
pub record PastRule : Type 0 where
  pub holds : ℕ → List ℕ → Bool
  pub most : List ℕ → ℕ

-- The first, up to version 0.2: four replicates, and bytes 6 and 7 of an entry both zero.
unfoldable pub first_entry_holds : ℕ → List ℕ → Bool
first_entry_holds previous e = ltb previous (trial e) && leb 1 (count e) && leb (count e) 1024 && eqb
    (get_or e 6 0) 0 && eqb (get_or e 7 0) 0

abbrev pub first_rule : PastRule
first_rule = record { holds = first_entry_holds; most = λ (e : List ℕ). 4 }

-- The second, versions 1.0 and 1.1: as many replicates as byte 6 says, at most 8, and four where it
-- is 0.
unfoldable pub second_replicates : List ℕ → ℕ
second_replicates e = choose (eqb (get_or e 6 0) 0) 4 (get_or e 6 0)

unfoldable pub second_entry_holds : ℕ → List ℕ → Bool
second_entry_holds previous e = ltb previous (trial e) && leb 1 (count e) && leb (count e) 1024 && leb
    (second_replicates e) 8 && eqb (get_or e 7 0) 0

abbrev pub second_rule : PastRule
second_rule = record { holds = second_entry_holds; most = second_replicates }

unfoldable pub past_entries_hold : PastRule → ℕ → List (List ℕ) → Bool
past_entries_hold rule previous [] = true
past_entries_hold rule previous (e ∷ es) = rule.holds previous e && past_entries_hold rule (trial e) es

-- A record, given the entry of its sheet: any row and any column.
unfoldable pub past_record_holds : PastRule → List ℕ → List ℕ → Bool
past_record_holds rule e r = eqb (record_trial r) (trial e) && leb 1 (record_entry r) && leb 1
    (record_replicate r) && leb
    (record_replicate r) (rule.most e) && eqb (number 13 3 r) 0

-- Whether P holds of every record of a sheet; and of every sheet, given its entry, once its body
-- has gone through f.
unfoldable pub every_record : (List ℕ → Bool) → List (List ℕ) → Bool
every_record P [] = true
every_record P (r ∷ rs) = P r && every_record P rs

unfoldable pub every_sheet : (List ℕ → List ℕ → Bool) → (List ℕ → List ℕ → List ℕ) → List (List ℕ) → List ℕ → Bool
every_sheet P f [] bs = true
every_sheet P f (e ∷ es) bs = every_record (P e)
    (pieces 16 (count e) (f e (take (16 * count e) bs))) && every_sheet P f es
    (drop (16 * count e) bs)

-- Checks 4 to 10.
unfoldable pub past_form_checks : PastRule → ℕ → List ℕ → List ℕ → List Check
past_form_checks rule kind book out =
    output_check (length book) out
    ∷ check 5 (leb 4 (length book) && leb (length book) 65532)
    ∷ check 6 (eqb (get_or book 0 0) kind && eqb (get_or book 1 0) 0)
    ∷ check 7 (leb (sheet_count book) 64)
    ∷ check 8 (leb (4 + 24 * sheet_count book) (length book))
    ∷ check 9 (past_entries_hold rule 0 (contents book))
    ∷ check 10 (eqb (length book) (4 + 24 * sheet_count book + 16 * record_count (contents book)))
    ∷ []

-- The checks of a call on a whole book: some list cs about key and way, or words and way, then 4 to
-- 10, and 11.
unfoldable pub past_book_checks : PastRule → List Check → ℕ → (List ℕ → List ℕ → List ℕ) → List ℕ → List ℕ → List Check
past_book_checks rule cs kind f book out =
    cs ++ (past_form_checks rule kind book out
    ++ (check 11 (every_sheet (past_record_holds rule) f (contents book) (bodies book)) ∷ []))

unfoldable pub past_encrypt_book_by : PastRule → List Check → (List ℕ → List ℕ) → List ℕ → List ℕ → Outcome
past_encrypt_book_by rule cs E book out =
    judged (past_book_checks rule cs 1 as_it_is book out)
    (accepted (record_count (contents book)) (map_bodies 2 (encrypt_body E) book))

unfoldable pub past_decrypt_book_by : PastRule → List Check → (List ℕ → List ℕ) → List ℕ → List ℕ → Outcome
past_decrypt_book_by rule cs D book out =
    judged (past_book_checks rule cs 2 (decrypt_body D) book out)
    (accepted (record_count (contents book)) (map_bodies 1 (decrypt_body D) book))

-- ---- the rule of plots, of a whole book: every record keeps it, once its body has gone through f

unfoldable pub plot_kept : List ℕ → List ℕ → Bool
plot_kept e r = plot_holds (record_row r) (record_column r)

abbrev pub plots_hold : (List ℕ → List ℕ → List ℕ) → List ℕ → Bool
plots_hold f book = every_sheet plot_kept f (contents book) (bodies book)

-- ---- today's rule of a record is that of past seasons and the rule of plots

last_two : (a p z : Bool) → (a && p && z) ≡ (a && z && p)
last_two true p z = and_comm p z
last_two false p z = refl

middle_two : (a p b q : Bool) → (a && p && (b && q)) ≡ (a && b && (p && q))
middle_two true true b q = refl
middle_two true false b q = sym (and_comm b false)
middle_two false p b q = refl

past_record : (rule : PastRule) (e r : List ℕ) → replicates e ≡ rule.most e
    → record_holds e r ≡ (past_record_holds rule e r && plot_kept e r)
unfolding record_holds past_record_holds plot_kept
past_record rule e r h =
    rw h
    (last_two (eqb (record_trial r) (trial e) && leb 1 (record_entry r) && leb 1 (record_replicate r) && leb
    (record_replicate r) (rule.most e)) (plot_holds (record_row r) (record_column r)) (eqb (number 13 3 r) 0))

past_records : (rule : PastRule) (e : List ℕ) (rs : List (List ℕ)) → replicates e ≡ rule.most e
    → all_records_hold e rs ≡ (every_record (past_record_holds rule e) rs && every_record (plot_kept e) rs)
unfolding all_records_hold every_record
past_records rule e [] h = refl
past_records rule e (r ∷ rs) h =
    rw (past_record rule e r h, past_records rule e rs h)
    (middle_two (past_record_holds rule e r) (plot_kept e r) (every_record (past_record_holds rule e) rs)
    (every_record (plot_kept e) rs))

-- ---- books that a rule of past seasons and today's read alike, but for the plots

-- Of an entry.
pub record Alike (rule : PastRule) (e : List ℕ) : Type 0 where
  pub holds : (previous : ℕ) → entry_holds previous e ≡ rule.holds previous e
  pub most : replicates e ≡ rule.most e

-- With 0 in byte 6 it is so by the first rule, and by the second always.
abbrev pub Unnumbered : List ℕ → Type 0
Unnumbered e = get_or e 6 0 ≡ 0

first_alike : (e : List ℕ) → Unnumbered e → Alike first_rule e
unfolding replicates entry_holds first_entry_holds
first_alike e z = record { holds = λ previous. rw z; most = rw z }

second_alike : (es : List (List ℕ)) → Every (Alike second_rule) es
unfolding replicates entry_holds second_replicates second_entry_holds
second_alike [] = nothing
second_alike (e ∷ es) = both (record { holds = λ previous. refl; most = refl }) (second_alike es)

past_entries : (rule : PastRule) (previous : ℕ) {es : List (List ℕ)} → Every (Alike rule) es
    → entries_hold previous es ≡ past_entries_hold rule previous es
unfolding entries_hold past_entries_hold
past_entries rule previous nothing = refl
past_entries rule previous (both {e = e} alike every) = rw (alike.holds previous, past_entries rule (trial e) every)

past_sheets : (rule : PastRule) (f : List ℕ → List ℕ → List ℕ) (bs : List ℕ) {es : List (List ℕ)}
    → Every (Alike rule) es
    → sheets_hold f es bs ≡ (every_sheet (past_record_holds rule) f es bs && every_sheet plot_kept f es bs)
unfolding sheets_hold every_sheet
past_sheets rule f bs nothing = refl
past_sheets rule f bs (both {e = e} {es = es} alike every) =
    let rs : List (List ℕ) = pieces 16 (count e) (f e (take (16 * count e) bs)) in
    let rest : List ℕ = drop (16 * count e) bs in
    rw (past_records rule e rs alike.most, past_sheets rule f rest every)
    (middle_two (every_record (past_record_holds rule e) rs) (every_record (plot_kept e) rs)
    (every_sheet (past_record_holds rule) f es rest) (every_sheet plot_kept f es rest))

past_checks : (rule : PastRule) (cs : List Check) (book out : List ℕ) → Every (Alike rule) (contents book)
    → (kind : ℕ) (f : List ℕ → List ℕ → List ℕ)
    → book_checks cs kind f book out
    ≡ cs ++ (past_form_checks rule kind book out
    ++ (check 11 (every_sheet (past_record_holds rule) f (contents book) (bodies book) && plots_hold f book) ∷ []))
unfolding form_checks records_check book_checks past_form_checks
past_checks rule cs book out every kind f = rw (past_entries rule 0 every, past_sheets rule f (bodies book) every)

-- ---- 0 in byte 6 of every entry, and the rule of plots kept: for any cipher, and any checks cs
-- about words and way, so for the exported calls

module _ (cs : List Check) (book out : List ℕ) (every : Every Unnumbered (contents book)) where
  kept_checks : (kind : ℕ) (f : List ℕ → List ℕ → List ℕ) → plots_hold f book ≡ true
      → book_checks cs kind f book out ≡ past_book_checks first_rule cs kind f book out
  unfolding past_book_checks
  kept_checks kind f h = past_checks first_rule cs book out (every_map first_alike every) kind f ∙ rw (h, and-true)

  pub past_encrypts : (E : List ℕ → List ℕ)
      → plots_hold as_it_is book ≡ true → encrypt_book_by cs E book out ≡ past_encrypt_book_by first_rule cs E book out
  unfolding encrypt_book_by past_encrypt_book_by
  past_encrypts E h = rw (kept_checks 1 as_it_is h)

  pub past_decrypts : (D : List ℕ → List ℕ) → plots_hold (decrypt_body D) book ≡ true
      → decrypt_book_by cs D book out ≡ past_decrypt_book_by first_rule cs D book out
  unfolding decrypt_book_by past_decrypt_book_by
  past_decrypts D h = rw (kept_checks 2 (decrypt_body D) h)

-- ---- what the rules of past seasons accepted

pub data Season : PastRule → Type 0 where
  first : Season first_rule
  second : Season second_rule

past_zero : (previous : ℕ) (e : List ℕ) → first_entry_holds previous e ≡ true → Unnumbered e
unfolding first_entry_holds
past_zero previous e h =
    let front : Bool = ltb previous (trial e) && leb 1 (count e) && leb (count e) 1024 in
    eqb-true (get_or e 6 0) 0 (both_true front (eqb (get_or e 6 0) 0)
    (both_true (front && eqb (get_or e 6 0) 0) (eqb (get_or e 7 0) 0) h).0).1

past_zeros : (previous : ℕ) (es : List (List ℕ)) → past_entries_hold first_rule previous es ≡ true → Every Unnumbered es
unfolding past_entries_hold
past_zeros previous [] h = nothing
past_zeros previous (e ∷ es) h =
    let p : (first_entry_holds previous e ≡ true) × (past_entries_hold first_rule (trial e) es ≡ true) =
    both_true (first_entry_holds previous e) (past_entries_hold first_rule (trial e) es) h in
    both (past_zero previous e p.0) (past_zeros (trial e) es p.1)

past_alike : {rule : PastRule} → Season rule → (kind : ℕ) (book out : List ℕ)
    → AllPass (past_form_checks rule kind book out) → Every (Alike rule) (contents book)
unfolding past_form_checks
past_alike first kind book out p =
    every_map first_alike (past_zeros 0 (contents book)
    (pass_head (pass_tail (pass_tail (pass_tail (pass_tail (pass_tail p)))))))
past_alike second kind book out p = second_alike (contents book)

-- Where all checks passed, and of the last one q is asked too, q alone decides.
one_check : (c : ℕ) (q : Bool) (o : Outcome) → judged (check c q ∷ []) o ≡ choose q o (refused c)
unfolding judged
one_check c true o = refl
one_check c false o = refl

last_check_lem : (c : ℕ) {cs : List Check} (ds : List Check) (p q : Bool) (o : Outcome) → AllPass cs
    → AllPass (ds ++ (check c p ∷ []))
    → judged (cs ++ (ds ++ (check c (p && q) ∷ []))) o ≡ choose q o (refused c)
last_check_lem c {cs} ds p q o a b =
    let t : p ≡ true = pass_head (pass_right ds _ b) in
    judged_append cs (ds ++ (check c (p && q) ∷ [])) o
    ∙ judged_pass a _
    ∙ judged_append ds (check c (p && q) ∷ []) o
    ∙ judged_pass (pass_left ds _ b) _
    ∙ rw t (one_check c q o)

module _ {rule : PastRule} (season : Season rule) (cs : List Check) {cs' : List Check} (kind : ℕ)
    (f : List ℕ → List ℕ → List ℕ) (book out : List ℕ) (o : Outcome) where
  past_judged : AllPass (past_book_checks rule cs kind f book out) → AllPass cs'
      → judged (book_checks cs' kind f book out) o ≡ choose (plots_hold f book) o (refused 11)
  unfolding past_book_checks
  past_judged p q =
      let b : AllPass (past_form_checks rule kind book out
      ++ (check 11 (every_sheet (past_record_holds rule) f (contents book) (bodies book)) ∷ [])) = pass_right cs _ p in
      let every : Every (Alike rule) (contents book) =
      past_alike season kind book out (pass_left (past_form_checks rule kind book out) _ b) in
      ap (λ (ks : List Check). judged ks o) (past_checks rule cs' book out every kind f)
      ∙ last_check_lem 11 (past_form_checks rule kind book out)
      (every_sheet (past_record_holds rule) f (contents book) (bodies book)) (plots_hold f book) o q b

-- The calls of past seasons took the key. Today's are given the words that were expanded for it,
-- and may go by another way.
module _ {rule : PastRule} (season : Season rule) (key : List ℕ) (bytes : Below 256 key) {words : List ℕ}
    (made : Expanded key words) (way : ℕ) {way' : ℕ} (permitted : Way way') (book out : List ℕ) {n : ℕ}
    {bs : List ℕ} where
  pub past_accepted_encrypts : past_encrypt_book_by rule (key_and_way key way) (encrypt key) book out ≡ accepted n bs
      → encrypt_book_call words way' book out ≡ choose (plots_hold as_it_is book) (accepted n bs) (refused 11)
  unfolding past_encrypt_book_by encrypt_book_by
  past_accepted_encrypts a =
      let p : Passed _ _ n _ bs = passed _ _ _ a in
      encrypt_book_under_key bytes made way' book out
      ∙ past_judged season (key_and_way key way) 1 as_it_is book out _ p.checks (way_passes permitted)
      ∙ rw (p.same_count, p.same_bytes)

  pub past_accepted_decrypts : past_decrypt_book_by rule (key_and_way key way) (decrypt key) book out ≡ accepted n bs
      → decrypt_book_call words way' book out
      ≡ choose (plots_hold (decrypt_body (decrypt key)) book) (accepted n bs) (refused 11)
  unfolding past_decrypt_book_by decrypt_book_by
  past_accepted_decrypts a =
      let p : Passed _ _ n _ bs = passed _ _ _ a in
      decrypt_book_under_key bytes made way' book out
      ∙ past_judged season (key_and_way key way) 2 (decrypt_body (decrypt key)) book out _ p.checks
      (way_passes permitted) ∙ rw (p.same_count, p.same_bytes)
