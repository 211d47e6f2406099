-- Theorems of the planting page. Every line has 32 bytes; the number of a field can be read back;
-- so a page shows the whole sheet.
use Rattle.std.specs.Prelude.{ℕ, zero, suc, ◌+◌, ◌-◌, ◌*◌, ◌/◌, ◌%◌, ◌^◌, ◌≤◌, ◌<◌, Bool, true, false, ◌&&◌, ◌||◌, ◌↔◌, ◌≡◌, refl, eqb, leb, ltb, get_or, drop}
use mathlib.Core.List.{List, [], ◌∷◌, ◌++◌}
use Rattle.std.proofs.Math.Path.{sym, ap}
use Rattle.std.proofs.Common.{ap₂, ◌∙◌, pow-suc, arith, eqb-true, leb-true, ltb-true, lit<, length-append, take-append-drop, take_at, drop_at, drop-cons, take_all}
use Rattle.std.proofs.Math.Nat.{pow-zero}
use Rattle.std.proofs.Math.ListN.{length, take}
use Rattle.std.proofs.Math.Seq.{take-add}
use Rattle.clefia_spec.specs.Cases.{both_true}
use Rattle.clefia_spec.specs.Words.{choose, from_digits, to_digits, Below, none, more}
use Rattle.clefia_laws.specs.FFunctionLaws.{all_less, below_tested}
use Rattle.clefia_laws.specs.DigitLaws.{to_from, from_digits_lt, below_append}
use Rattle.clefia_laws.specs.SizedLaws.{Bytes, sized_take, sized_drop}
use Rattle.planbook_spec.specs.Outcome.{accepted, after}
use Rattle.planbook_spec.specs.OutcomeLaws.{AllPass, pass_head, pass_tail, pass_left, pass_right, passed, Accepted}
use Rattle.planbook_spec.specs.OutcomeLaws.{accepted_is, Judges, judges}
use Rattle.planbook_spec.specs.Checks.{output_check}
use Rattle.planbook_spec.specs.Book.{number, pieces, trial, count, record_trial, record_entry, record_replicate, record_row}
use Rattle.planbook_spec.specs.Book.{record_column, replicates, plot_holds, record_holds, all_records_hold, entries_hold}
use Rattle.planbook_spec.specs.Book.{sheet_count, contents, bodies, sheet_entry, sheet_body, form_checks, sheets_hold}
use Rattle.planbook_spec.specs.Book.{records_check, as_it_is, form_and_records}
use Rattle.planbook_laws.specs.Undoing.{empty}
use Rattle.planbook_laws.specs.CheckLaws.{output_size}
use Rattle.planbook_laws.specs.BookLaws.{Formed, formed}
use Rattle.planbook_laws.specs.SheetLaws.{body_room, SheetKept, sheet_kept}
use Rattle.planbook_spec.specs.Page.{decimal, spaces, right_aligned, number_field, fields, heading, line, lines, page}
use Rattle.planbook_spec.specs.Page.{line_count, sheet_check, page_checks, page_call}

-- ---- lengths

length_decimal : (k n : ℕ) → length (decimal k n) ≤ k
unfolding decimal
length_decimal zero n = omega arith
length_decimal (suc k) n = by_test (ltb n 10) (length_decimal k (n / 10))
  where
    by_test : (t : Bool) → length (decimal k (n / 10)) ≤ k
        → length (choose t [] (decimal k (n / 10)) ++ ((48 + n % 10) ∷ [])) ≤ suc k
    by_test true h = omega arith
    by_test false h = omega (arith, length-append (decimal k (n / 10)) ((48 + n % 10) ∷ []))

pub length_spaces : (n : ℕ) → length (spaces n) ≡ n
unfolding spaces
length_spaces zero = refl
length_spaces (suc n) = ap suc (length_spaces n)

-- A text that fits its field fills it.
length_aligned : (w : ℕ) (text : List ℕ) → length text ≤ w → length (right_aligned w text) ≡ w
unfolding right_aligned
length_aligned w text h = omega (arith, length-append (spaces (w - length text)) text, length_spaces (w - length text))

pub length_field : (w n : ℕ) → length (number_field w n) ≡ w
length_field w n = length_aligned w (decimal w n) (length_decimal w n)

pub length_heading : length heading ≡ 32
unfolding heading right_aligned spaces
length_heading = refl

pub length_line : (r : List ℕ) → length (line r) ≡ 32
unfolding line
length_line r = simp (length-append, length_field) (omega arith)

pub length_lines : (n : ℕ) (bs : List ℕ) → length (lines (pieces 16 n bs)) ≡ 32 * n
unfolding pieces lines
length_lines zero bs = refl
length_lines (suc n) bs = length-append (line (take 16 bs)) (lines (pieces 16 n (drop 16 bs)))
    ∙ omega (arith, length_line (take 16 bs), length_lines n (drop 16 bs))

-- So a page has 32 times as many bytes as lines.
pub length_page : (i : ℕ) (book : List ℕ) → length (page i book) ≡ 32 * line_count i book
unfolding page
length_page i book = length-append heading _
    ∙ omega (arith, length_heading, length_lines (count (sheet_entry i book)) (sheet_body i book))

-- ---- characters: every one is below 128

below_decimal : (k n : ℕ) → Below 128 (decimal k n)
unfolding decimal
below_decimal zero n = none
below_decimal (suc k) n = below_append (by_test (ltb n 10) (below_decimal k (n / 10))) (more (omega arith) none)
  where
    by_test : (t : Bool) → Below 128 (decimal k (n / 10)) → Below 128 (choose t [] (decimal k (n / 10)))
    by_test true h = none
    by_test false h = h

below_spaces : (n : ℕ) → Below 128 (spaces n)
unfolding spaces
below_spaces zero = none
below_spaces (suc n) = more (lit< tt) (below_spaces n)

below_aligned : (w : ℕ) {text : List ℕ} → Below 128 text → Below 128 (right_aligned w text)
unfolding right_aligned
below_aligned w h = below_append (below_spaces _) h

below_field : (w n : ℕ) → Below 128 (number_field w n)
below_field w n = below_aligned w (below_decimal w n)

below_fields : {a b c d e : List ℕ} → Below 128 a → Below 128 b → Below 128 c → Below 128 d → Below 128 e
    → Below 128 (fields a b c d e)
below_fields a b c d e =
    below_append a
    (more (lit< tt)
    (below_append b
    (more (lit< tt)
    (below_append c
    (more (lit< tt) (below_append d (more (lit< tt) (below_append e (more (lit< tt) none)))))))))

below_heading : Below 128 heading
unfolding heading right_aligned spaces all_less
below_heading = below_tested 128 heading tt

below_lines : (rs : List (List ℕ)) → Below 128 (lines rs)
unfolding lines line
below_lines [] = none
below_lines (r ∷ rs) = below_append (below_fields (below_field 10 _) (below_field 10 _) (below_field 1 _)
    (below_field 3 _) (below_field 3 _)) (below_lines rs)

-- So a page is ASCII.
pub ascii_page : (i : ℕ) (book : List ℕ) → Below 128 (page i book)
unfolding page
ascii_page i book = below_append below_heading (below_lines _)

-- ---- the number of a field can be read back

-- The number that is read off a field, after a number before it. A space counts as 0, since 32 - 48
-- is 0 in ℕ.
unfoldable pub read_on : ℕ → List ℕ → ℕ
read_on n [] = n
read_on n (c ∷ cs) = read_on (n * 10 + (c - 48)) cs

read_last : (m : ℕ) (cs : List ℕ) (c : ℕ) → read_on m (cs ++ (c ∷ [])) ≡ read_on m cs * 10 + (c - 48)
unfolding read_on
read_last m [] c = refl
read_last m (x ∷ cs) c = read_last (m * 10 + (x - 48)) cs c

read_spaces : (k : ℕ) (cs : List ℕ) → read_on 0 (spaces k ++ cs) ≡ read_on 0 cs
unfolding read_on spaces
read_spaces zero cs = refl
read_spaces (suc k) cs = read_spaces k cs

read_decimal : (k n : ℕ) → n < 10 ^ k → read_on 0 (decimal k n) ≡ n
unfolding decimal read_on
read_decimal zero n h = let s : n < 1 = rw (pow-zero 10) at h in omega arith
read_decimal (suc k) n h =
    let s : n < 10 ^ k * 10 = rw (pow-suc 10 k) at h in
    read_last 0 (choose (ltb n 10) [] (decimal k (n / 10))) (48 + n % 10)
    ∙ by_test (ltb n 10) refl (read_decimal k (n / 10) (omega arith))
  where
    by_test : (t : Bool) → ltb n 10 ≡ t → read_on 0 (decimal k (n / 10)) ≡ n / 10
        → read_on 0 (choose t [] (decimal k (n / 10))) * 10 + (48 + n % 10 - 48) ≡ n
    by_test true e q = let s : n < 10 = ltb-true n 10 e in omega arith
    by_test false e q = omega arith

read_field : (w n : ℕ) → read_on 0 (number_field w n) ≡ read_on 0 (decimal w n)
unfolding right_aligned
read_field w n = read_spaces (w - length (decimal w n)) (decimal w n)

pub field_back : (w n : ℕ) → n < 10 ^ w → read_on 0 (number_field w n) ≡ n
field_back w n h = read_field w n ∙ read_decimal w n h

pub fields_differ : (w : ℕ) {m n : ℕ} → m < 10 ^ w → n < 10 ^ w → number_field w m ≡ number_field w n → m ≡ n
fields_differ w {m} {n} h k e =
    sym (read_decimal w m h) ∙ sym (read_field w m) ∙ ap (read_on 0) e ∙ read_field w n ∙ read_decimal w n k

-- ---- a line shows its record

-- Two lists of equal parts.
equal_parts : (n : ℕ) (a a' : List ℕ) {b b' : List ℕ} → length a ≡ n → length a' ≡ n → a ++ b ≡ a' ++ b'
    → (a ≡ a') × (b ≡ b')
equal_parts n a a' {b} {b'} l l' e = (
  sym (take_at a b n l) ∙ ap (take n) e ∙ take_at a' b' n l',
  sym (drop_at a b n l) ∙ ap (drop n) e
      ∙ drop_at a' b' n l',
)

-- The first field of two lines, and what follows it.
field_parts : (w m n : ℕ) {b b' : List ℕ} → number_field w m ++ b ≡ number_field w n ++ b'
    → (number_field w m ≡ number_field w n) × (b ≡ b')
field_parts w m n = equal_parts w (number_field w m) (number_field w n) (length_field w m) (length_field w n)

-- That the numbers of a record fit their fields.
record Fits (r : List ℕ) : Type 0 where
  trial : record_trial r < 10 ^ 10
  entry : record_entry r < 10 ^ 10
  replicate : record_replicate r < 10 ^ 1
  row : record_row r < 10 ^ 3
  column : record_column r < 10 ^ 3

record SameNumbers (r r' : List ℕ) : Type 0 where
  trial : record_trial r ≡ record_trial r'
  entry : record_entry r ≡ record_entry r'
  replicate : record_replicate r ≡ record_replicate r'
  row : record_row r ≡ record_row r'
  column : record_column r ≡ record_column r'

same_numbers : {r r' : List ℕ} → Fits r → Fits r' → line r ≡ line r' → SameNumbers r r'
unfolding line
same_numbers {r} {r'} f g e =
    let a = field_parts 10 (record_trial r) (record_trial r') e in
    let b = field_parts 10 (record_entry r) (record_entry r') (ap (drop 1) a.1) in
    let c = field_parts 1 (record_replicate r) (record_replicate r') (ap (drop 1) b.1) in
    let d = field_parts 3 (record_row r) (record_row r') (ap (drop 1) c.1) in
    let l = field_parts 3 (record_column r) (record_column r') (ap (drop 1) d.1) in
    record {
      trial = fields_differ 10 f.trial g.trial a.0;
      entry = fields_differ 10 f.entry g.entry b.0;
      replicate = fields_differ 1 f.replicate g.replicate c.0;
      row = fields_differ 3 f.row g.row d.0;
      column = fields_differ 3 f.column g.column l.0;
    }

-- ---- a record is its numbers

number_one : (at : ℕ) (bs : List ℕ) → at < length bs → number at 1 bs ≡ get_or bs at 0
unfolding number from_digits
number_one at bs h = rw (drop-cons bs at 0 h) (omega arith)

-- The bytes of a number in a record.
part_bytes : (at k : ℕ) {r : List ℕ} → Bytes 16 r → at + k ≤ 16 → Bytes k (take k (drop at r))
part_bytes at k b h = sized_take k (16 - at - k) (sized_drop at (16 - at) b (omega arith)) (omega arith)

module _ {r r' : List ℕ} (b : Bytes 16 r) (b' : Bytes 16 r') where
  -- The bytes of one number more.
  longer : (a k : ℕ) → a + k ≤ 16 → take a r ≡ take a r' → number a k r ≡ number a k r'
      → take (a + k) r ≡ take (a + k) r'
  unfolding number
  longer a k h t e = rw (take-add a k r, take-add a k r', t, sym (digits b) ∙ ap (to_digits 256 k) e ∙ digits b')
    where
      digits : {s : List ℕ} → Bytes 16 s → to_digits 256 k (from_digits 256 (take k (drop a s))) ≡ take k (drop a s)
      digits {s} p =
          let q : Bytes k (take k (drop a s)) = part_bytes a k p h in
          ap (λ (m : ℕ). to_digits 256 m (from_digits 256 (take k (drop a s)))) (sym q.size)
          ∙ to_from (lit< tt) q.below

  same_record : SameNumbers r r' → number 13 3 r ≡ number 13 3 r' → r ≡ r'
  same_record s z =
      let four : take 4 r ≡ take 4 r' = longer 0 4 (omega arith) refl s.trial in
      let eight : take 8 r ≡ take 8 r' = longer 4 4 (omega arith) four s.entry in
      let nine : take 9 r ≡ take 9 r' = longer 8 1 (omega arith) eight
      (byte r b.size ∙ s.replicate ∙ sym (byte r' b'.size)) in
      let eleven : take 11 r ≡ take 11 r' = longer 9 2 (omega arith) nine s.row in
      let thirteen : take 13 r ≡ take 13 r' = longer 11 2 (omega arith) eleven s.column in
      let all : take 16 r ≡ take 16 r' = longer 13 3 (omega arith) thirteen z in
      sym (take_all 16 r (omega (arith, b.size))) ∙ all ∙ take_all 16 r' (omega (arith, b'.size))
    where
      byte : (q : List ℕ) → length q ≡ 16 → number 8 1 q ≡ record_replicate q
      byte q l = number_one 8 q (omega arith)

-- ---- a page shows its sheet

plot_small : (row column : ℕ) → plot_holds row column ≡ true → (row < 10 ^ 3) × (column < 10 ^ 3)
unfolding plot_holds
plot_small row column h = by_test (eqb row 0 && eqb column 0) refl h
  where
    by_test : (t : Bool) → (eqb row 0 && eqb column 0) ≡ t
        → (t || (leb 1 row && leb row 999 && leb 1 column && leb column 999)) ≡ true
        → (row < 10 ^ 3) × (column < 10 ^ 3)
    by_test true e k =
        let zeros = both_true (eqb row 0) (eqb column 0) e in
        let r : row ≡ 0 = eqb-true row 0 zeros.0 in
        let c : column ≡ 0 = eqb-true column 0 zeros.1 in
        (omega arith, omega arith)
    by_test false e k =
        let last = both_true (leb 1 row && leb row 999 && leb 1 column) (leb column 999) k in
        let first = both_true (leb 1 row && leb row 999) (leb 1 column) last.0 in
        let r : row ≤ 999 = leb-true row 999 (both_true (leb 1 row) (leb row 999) first.0).1 in
        let c : column ≤ 999 = leb-true column 999 last.1 in
        (omega arith, omega arith)

-- What the rule of records says of one: its numbers fit, and its last three bytes are 0.
record Kept (r : List ℕ) : Type 0 where
  fits : Fits r
  zeros : number 13 3 r ≡ 0

number_small : (at k : ℕ) {r : List ℕ} → Bytes 16 r → at + k ≤ 16 → number at k r < 256 ^ k
unfolding number
number_small at k {r} b h =
    let q : Bytes k (take k (drop at r)) = part_bytes at k b h in
    rw q.size at (from_digits_lt (lit< tt) q.below)

shown : (e : List ℕ) {r : List ℕ} → replicates e < 10 → Bytes 16 r → record_holds e r ≡ true → Kept r
unfolding record_holds
shown e {r} few b h =
    let front : Bool = eqb (record_trial r) (trial e) && leb 1 (record_entry r) && leb 1 (record_replicate r) in
    let greatest : Bool = leb (record_replicate r) (replicates e) in
    let f = both_true (front && greatest && plot_holds (record_row r) (record_column r)) (eqb (number 13 3 r) 0) h in
    let p = both_true (front && greatest) (plot_holds (record_row r) (record_column r)) f.0 in
    let q = both_true front greatest p.0 in
    let plot = plot_small (record_row r) (record_column r) p.1 in
    let rep : record_replicate r ≤ replicates e = leb-true _ _ q.1 in
    record {
      fits = record {
        trial = word 0 (omega arith);
        entry = word 4 (omega arith);
        replicate = omega arith;
        row =
            plot.0;
        column = plot.1;
      };
      zeros = eqb-true _ _ f.1;
    }
  where
    word : (at : ℕ) → at + 4 ≤ 16 → number at 4 r < 10 ^ 10
    word at k = omega (arith, number_small at 4 b k)

-- And so of each record of a sheet that check 9 lets through.
kept : (e : List ℕ) {r : List ℕ} → replicates e ≤ 8 → Bytes 16 r → record_holds e r ≡ true → Kept r
kept e few b h = shown e (omega (arith, few)) b h

-- So two sheets of equal lines have equal bodies.
lines_say : (n : ℕ) (e e' : List ℕ) {b b' : List ℕ} → replicates e ≤ 8 → replicates e' ≤ 8 → Bytes (16 * n) b
    → Bytes (16 * n) b'
    → all_records_hold e (pieces 16 n b) ≡ true → all_records_hold e' (pieces 16 n b') ≡ true
    → lines (pieces 16 n b) ≡ lines (pieces 16 n b') → b ≡ b'
unfolding pieces all_records_hold lines
lines_say zero e e' {b} {b'} few few' p p' h h' q = sym (empty b p) ∙ empty b' p'
lines_say (suc n) e e' {b} {b'} few few' p p' h h' q =
    let t = both_true (record_holds e (take 16 b)) _ h in
    let t' = both_true (record_holds e' (take 16 b')) _ h' in
    let r : Bytes 16 (take 16 b) = sized_take 16 (16 * n) p (omega arith) in
    let r' : Bytes 16 (take 16 b') = sized_take 16 (16 * n) p' (omega arith) in
    let k : Kept (take 16 b) = shown e (omega (arith, few)) r t.0 in
    let k' : Kept (take 16 b') = shown e' (omega (arith, few')) r' t'.0 in
    let s = equal_parts 32 (line (take 16 b)) (line (take 16 b')) (length_line (take 16 b))
    (length_line (take 16 b')) q in
    let first : take 16 b ≡ take 16 b' = same_record r r' (same_numbers k.fits k'.fits s.0)
    (k.zeros ∙ sym k'.zeros) in
    let rest : drop 16 b ≡ drop 16 b' =
    lines_say n e e' few few' (sized_drop 16 (16 * n) p (omega arith)) (sized_drop 16 (16 * n) p' (omega arith)) t.1
    t'.1 s.1 in
    sym (take-append-drop 16 b) ∙ ap₂ ◌++◌ first rest ∙ take-append-drop 16 b'

-- Whatever the number of their records.
bodies_say : (n n' : ℕ) (e e' : List ℕ) {b b' : List ℕ} → replicates e ≤ 8 → replicates e' ≤ 8 → Bytes (16 * n) b
    → Bytes (16 * n') b'
    → all_records_hold e (pieces 16 n b) ≡ true → all_records_hold e' (pieces 16 n' b') ≡ true
    → lines (pieces 16 n b) ≡ lines (pieces 16 n' b') → b ≡ b'
bodies_say n n' e e' {b} {b'} few few' p p' h h' q =
    let k : n' ≡ n = omega (arith, sym (length_lines n b) ∙ ap length q ∙ length_lines n' b') in
    lines_say n e e' few few' p (rw k at p') h (rw k at h') (rw k at q)

module _ {book book' : List ℕ} {i i' : ℕ} (s : SheetKept i book) (s' : SheetKept i' book') where
  page_says : page i book ≡ page i' book' → sheet_body i book ≡ sheet_body i' book'
  unfolding page
  page_says e = bodies_say _ _ (sheet_entry i book) (sheet_entry i' book') s.few s'.few s.bytes s'.bytes
      s.holds s'.holds (equal_parts 32 heading heading length_heading length_heading e).1

  body_says : sheet_body i book ≡ sheet_body i' book' → page i book ≡ page i' book'
  unfolding page
  body_says e =
      let k : count (sheet_entry i book) ≡ count (sheet_entry i' book') =
      omega (arith, sym s.bytes.size ∙ ap length e ∙ s'.bytes.size) in
      rw (e, k)

-- ---- the call

-- What its checks have shown.
pub record PagePassed (book : List ℕ) (i : ℕ) (out : List ℕ) : Type 0 where
  pub formed : Formed book
  pub entries : entries_hold 0 (contents book) ≡ true
  pub records : sheets_hold as_it_is (contents book) (bodies book) ≡ true
  pub there : i < sheet_count book
  pub room : length out ≡ 32 * line_count i book

pub page_passed : (book : List ℕ) (i : ℕ) (out : List ℕ) → AllPass (page_checks book i out) → PagePassed book i out
unfolding page_checks form_checks records_check sheet_check
page_passed book i out p =
    let b : AllPass (form_and_records 1 as_it_is book) = pass_left (form_and_records 1 as_it_is book) _ p in
    let f : AllPass (form_checks 1 book) = pass_left (form_checks 1 book) _ b in
    let q : AllPass (sheet_check i book ∷ output_check (32 * line_count i book) out ∷ []) =
    pass_right (form_and_records 1 as_it_is book) _ p in
    record {
      formed = formed 1 book f;
      entries = pass_head (pass_tail (pass_tail (pass_tail (pass_tail f))));
      records = pass_head (pass_right (form_checks 1 book) _ b);
      there = ltb-true _ _ (pass_head q);
      room = output_size out (pass_tail q);
    }

-- So the count of its lines is below 2 ^ 32, by far.
pub line_count_lem : {book : List ℕ} {i : ℕ} {out : List ℕ} → PagePassed book i out → line_count i book < 2 ^ 32
line_count_lem {book} {i} k = omega (
  arith,
  k.formed.short,
  k.formed.size,
  body_room i (sheet_count book) (drop 4 book) k.there,
)

pub demand1_page : (book : List ℕ) (i : ℕ) (out : List ℕ)
    → Judges (page_checks book i out) (line_count i book) (page i book) (page_call book i out)
unfolding page_call
demand1_page book i out = judges _ _ _

accepted_sheet : (book : List ℕ) (i : ℕ) (out : List ℕ) {n : ℕ} {bs : List ℕ} → Below 256 book
    → page_call book i out ≡ accepted n bs → (page i book ≡ bs) × SheetKept i book
unfolding page_call
accepted_sheet book i out below a =
    let p = passed (page_checks book i out) (line_count i book) (page i book) a in
    let k : PagePassed book i out = page_passed book i out p.checks in
    (p.same_bytes, sheet_kept i k.formed k.there below k.entries k.records)

-- The page shows the whole sheet: the pages of two accepted books are equal exactly where the
-- bodies of the two sheets are. Their indices may differ too.
pub pages_alike : (book book' : List ℕ) (i i' : ℕ) (out out' : List ℕ) → Below 256 book → Below 256 book'
    → Accepted (page_call book i out) → Accepted (page_call book' i' out')
    → (after out (page_call book i out) ≡ after out' (page_call book' i' out')) ↔ (sheet_body i book
    ≡ sheet_body i' book')
pages_alike book book' i i' out out' below below' a a' =
    let s = accepted_sheet book i out below (accepted_is a out) in
    let s' = accepted_sheet book' i' out' below' (accepted_is a' out') in
    (λ e. page_says s.1 s'.1 (s.0 ∙ e ∙ sym s'.0), λ e. sym s.0 ∙ body_says s.1 s'.1 e ∙ s'.0)
