-- What checks 1 to 4 and 14 permit.
use Rattle.std.specs.Prelude.{ℕ, Bool, true, false, ◌||◌, List, [], ◌∷◌, ◌≢◌, ◌≡◌, refl, eqb, length}
use Rattle.std.proofs.Common.{sym, subst, ◌∙◌, eqb-true, eq-eqb, ne_eqb}
use Rattle.clefia_spec.specs.Words.{KeyLength, sixteen, twenty_four, thirty_two}
use Rattle.planbook_spec.specs.Outcome.{Outcome, refused, Check, judged}
use Rattle.planbook_spec.specs.OutcomeLaws.{AllPass, none, more, pass_head, pass_append, pass_check, judged_append}
use Rattle.planbook_spec.specs.OutcomeLaws.{judged_pass, judged_false}
use Rattle.planbook_spec.specs.Checks.{key_check, way_check, block_check, output_check, words_check, words_and_way}

-- The three ways.
pub data Way : ℕ → Type 0 where
  one : Way 1
  two : Way 2
  three : Way 3

-- The permitted lengths of given words, in bytes: 40, 48 or 56 words.
pub data WordsLength : ℕ → Type 0 where
  forty : WordsLength 160
  forty_eight : WordsLength 192
  fifty_six : WordsLength 224

-- One of three tests passed.
one_of_three : (P : ℕ → Type 0) (n a b c : ℕ) → P a → P b → P c → eqb n a || eqb n b || eqb n c ≡ true → P n
one_of_three P n a b c pa pb pc = go (eqb n a) (eqb n b) (eqb n c) refl refl refl
  where
    at : (x : ℕ) → P x → eqb n x ≡ true → P n
    at x p e = subst P (sym (eqb-true n x e)) p

    go : (x y z : Bool) → eqb n a ≡ x → eqb n b ≡ y → eqb n c ≡ z → x || y || z ≡ true → P n
    go true y z ea eb ec t = at a pa ea
    go false true z ea eb ec t = at b pb eb
    go false false z ea eb ec t = at c pc (ec ∙ t)

none_of_three : (n a b c : ℕ) → n ≢ a → n ≢ b → n ≢ c → eqb n a || eqb n b || eqb n c ≡ false
none_of_three n a b c p q r = rw (ne_eqb n a p, ne_eqb n b q) (ne_eqb n c r)

pub key_permitted : {n : ℕ} {cs : List Check} → AllPass (key_check n ∷ cs) → KeyLength n
unfolding key_check
key_permitted {n} p = one_of_three KeyLength n 16 24 32 sixteen twenty_four thirty_two (pass_head p)

pub key_passes : {n : ℕ} → KeyLength n → AllPass (key_check n ∷ [])
unfolding key_check
key_passes sixteen = more none
key_passes twenty_four = more none
key_passes thirty_two = more none

pub words_permitted : {n : ℕ} {cs : List Check} → AllPass (words_check n ∷ cs) → WordsLength n
unfolding words_check
words_permitted {n} p = one_of_three WordsLength n 160 192 224 forty forty_eight fifty_six (pass_head p)

pub words_passes : {n : ℕ} → WordsLength n → AllPass (words_check n ∷ [])
unfolding words_check
words_passes forty = more none
words_passes forty_eight = more none
words_passes fifty_six = more none

pub way_passes : {w : ℕ} → Way w → AllPass (way_check w ∷ [])
unfolding way_check
way_passes one = more none
way_passes two = more none
way_passes three = more none

pub block_passes : (block : List ℕ) → length block ≡ 16 → AllPass (block_check block ∷ [])
unfolding block_check
block_passes block e = pass_check (eq-eqb (length block) 16 e)

pub output_passes : (n : ℕ) (out : List ℕ) → length out ≡ n → AllPass (output_check n out ∷ [])
unfolding output_check
output_passes n out e = pass_check (eq-eqb (length out) n e)

pub output_size : (out : List ℕ) {n : ℕ} {cs : List Check} → AllPass (output_check n out ∷ cs) → length out ≡ n
unfolding output_check
output_size out p = eqb-true _ _ (pass_head p)

pub block_size : (block : List ℕ) {cs : List Check} → AllPass (block_check block ∷ cs) → length block ≡ 16
unfolding block_check
block_size block p = eqb-true _ _ (pass_head p)

pub words_and_way_passes : (words : List ℕ) {w : ℕ} → WordsLength (length words) → Way w
    → AllPass (words_and_way words w)
words_and_way_passes words k w = pass_append (words_passes k) (way_passes w)

-- Words that have passed in one call pass in any other, by any permitted way.
pub words_again : (words : List ℕ) {w : ℕ} {cs : List Check} → AllPass (words_check (length words) ∷ cs) → Way w
    → AllPass (words_and_way words w)
words_again words p w = words_and_way_passes words (words_permitted p) w

-- ---- one of these checks at the head of a list, as code meets it

module _ (cs : List Check) (o : Outcome) where
  pub key_accepted : {n : ℕ} → KeyLength n → judged (key_check n ∷ cs) o ≡ judged cs o
  key_accepted k = judged_append (key_check _ ∷ []) cs o ∙ judged_pass (key_passes k) (judged cs o)

  pub key_refused : (n : ℕ) → n ≢ 16 → n ≢ 24 → n ≢ 32 → judged (key_check n ∷ cs) o ≡ refused 1
  unfolding key_check
  key_refused n a b c = judged_false (none_of_three n 16 24 32 a b c) 1 cs o
