-- Laws of an entry that is read: what the reader's answer says of it.
use Rattle.std.specs.Prelude.{ℕ, ◌≤◌, ◌≡◌, refl, Bool, true, false, ◌&&◌, List, eqb, leb, ltb, get_or, Some, None}
use Rattle.std.proofs.Common.{sym, ◌∙◌, leb-true}
use Rattle.clefia_spec.specs.Cases.{both_true}
use Rattle.planbook_spec.specs.Book.{trial, count, replicates, entry_holds}
use Rattle.book_entries.specs.declared.entry.Sheet.{Sheet}
use Rattle.book_entries.specs.Entry.{sheet_of, entry_of}

pub entry_good : (p : ℕ) (e : List ℕ) (s : Sheet) (t : Bool) → s ≡ sheet_of e
    → t ≡ (ltb p s.trial && leb 1 s.count && leb s.count 1024 && leb s.replicates 8 && eqb (get_or e 7 0) 0)
    → t ≡ true → Some s ≡ entry_of p e
unfolding entry_holds
entry_good p e s t hs ht h = let q : entry_holds p e ≡ true = sym (rw hs at ht) ∙ h in rw (q, hs)

pub entry_broken : (p : ℕ) (e : List ℕ) (s : Sheet) (t : Bool) → s ≡ sheet_of e
    → t ≡ (ltb p s.trial && leb 1 s.count && leb s.count 1024 && leb s.replicates 8 && eqb (get_or e 7 0) 0)
    → t ≡ false → None ≡ entry_of p e
unfolding entry_holds
entry_broken p e s t hs ht h = let q : entry_holds p e ≡ false = sym (rw hs at ht) ∙ h in rw q

-- What is known of an entry by the case that was read.
pub record Held (p : ℕ) (e : List ℕ) (s : Sheet) : Type 0 where
  pub holds : entry_holds p e ≡ true
  pub sheet : s ≡ sheet_of e
  pub few : count e ≤ 1024

third_passed : (a b c d e : Bool) → (a && b && c && d && e) ≡ true → c ≡ true
third_passed a b c d e h = (both_true (a && b) c (both_true (a && b && c) d (both_true (a && b && c && d) e h).0).0).1

few_of : (p : ℕ) (e : List ℕ) → entry_holds p e ≡ true → count e ≤ 1024
unfolding entry_holds
few_of p e h = leb-true (count e) 1024 (third_passed (ltb p (trial e)) (leb 1 (count e)) (leb (count e) 1024)
    (leb (replicates e) 8) (eqb (get_or e 7 0) 0) h)

held_by : (p : ℕ) (e : List ℕ) (s : Sheet) (t : Bool) → entry_holds p e ≡ t → Some s ≡ entry_of p e → Held p e s
unfolding entry_holds
held_by p e s true h g = let q : Some s ≡ Some (sheet_of e) = rw h at g in
    record { holds = h; sheet = cc; few = few_of p e h }
held_by p e s false h g = let q : Some s ≡ None = g ∙ sym (entry_broken p e (sheet_of e) false refl (sym h) refl) in cc

pub held : (p : ℕ) (e : List ℕ) (s : Sheet) → Some s ≡ entry_of p e → Held p e s
held p e s g = held_by p e s (entry_holds p e) refl g

pub broken_by : (p : ℕ) (e : List ℕ) (t : Bool) → entry_holds p e ≡ t → None ≡ entry_of p e → entry_holds p e ≡ false
unfolding entry_holds
broken_by p e true h g =
    let q : None ≡ Some (sheet_of e) = g ∙ sym (entry_good p e (sheet_of e) true refl (sym h) refl) in cc
broken_by p e false h g = h
