-- Laws of outcomes. The first demand rests on one of them: a list of checks refuses under c exactly
-- where c is the first that fails, and accepts exactly where all are passed.
use Rattle.std.specs.Prelude.{ℕ, ◌*◌, ◌^◌, Bool, true, false, List, [], ◌∷◌, ◌++◌, ◌↔◌, ◌⊎◌, ◌≡◌, refl}
use Rattle.std.proofs.Common.{inl, inr, sym, ap, subst, ◌∙◌, arith}
use Rattle.std.proofs.Math.Logic.{⊎_map}
use Rattle.planbook_spec.specs.Outcome.{Outcome, refused, accepted, answer, after, Answers, Check, check, judged}

-- c is the number of the first check that fails.
pub data FirstFailure : List Check → ℕ → Type 0 where
  here : {c : ℕ} {cs : List Check} → FirstFailure (check c false ∷ cs) c
  later : {c d : ℕ} {cs : List Check} → FirstFailure cs c → FirstFailure (check d true ∷ cs) c

-- No check fails.
pub data AllPass : List Check → Type 0 where
  none : AllPass []
  more : {c : ℕ} {cs : List Check} → AllPass cs → AllPass (check c true ∷ cs)

pub first_or_all : (cs : List Check) → ((c : ℕ) × FirstFailure cs c) ⊎ AllPass cs
first_or_all [] = inr none
first_or_all (check c true ∷ cs) = ⊎_map (λ f. (f.0, later f.1)) more (first_or_all cs)
first_or_all (check c false ∷ cs) = inl (c, here)

pub judged_pass : {cs : List Check} → AllPass cs → (o : Outcome) → judged cs o ≡ o
unfolding judged
judged_pass none o = refl
judged_pass (more p) o = judged_pass p o

pub judged_first : {cs : List Check} {c : ℕ} → FirstFailure cs c → (o : Outcome) → judged cs o ≡ refused c
unfolding judged
judged_first here o = refl
judged_first (later f) o = judged_first f o

-- Lists of checks may be judged one after the other.
pub judged_append : (cs ds : List Check) (o : Outcome) → judged (cs ++ ds) o ≡ judged cs (judged ds o)
unfolding judged
judged_append [] ds o = refl
judged_append (check c true ∷ cs) ds o = judged_append cs ds o
judged_append (check c false ∷ cs) ds o = refl

-- What is stated of a call that has these checks and, where it is accepted, this count and these
-- bytes.
pub record Judges (cs : List Check) (n : ℕ) (bs : List ℕ) (o : Outcome) : Type 0 where
  pub refuses : (c : ℕ) → (o ≡ refused c) ↔ FirstFailure cs c
  pub accepts : (o ≡ accepted n bs) ↔ AllPass cs
  pub either : ((c : ℕ) × (o ≡ refused c)) ⊎ (o ≡ accepted n bs)

failure_head : {c d : ℕ} {cs : List Check} → FirstFailure (check d false ∷ cs) c → d ≡ c
failure_head here = refl

failure_tail : {c d : ℕ} {cs : List Check} → FirstFailure (check d true ∷ cs) c → FirstFailure cs c
failure_tail (later f) = f

refuses_first : (cs : List Check) (n : ℕ) (bs : List ℕ) (c : ℕ) → judged cs (accepted n bs) ≡ refused c
    → FirstFailure cs c
unfolding judged
refuses_first [] n bs c e = let z : ◌≡◌ {A = ℕ} 0 1 = cc in absurd (omega arith)
refuses_first (check d true ∷ cs) n bs c e = later (refuses_first cs n bs c e)
refuses_first (check d false ∷ cs) n bs c e = let same : d ≡ c = cc in
    subst (FirstFailure (check d false ∷ cs)) same here

refused_not_accepted : {c n : ℕ} {bs : List ℕ} → refused c ≡ accepted n bs → ⊥
refused_not_accepted e = let z : ◌≡◌ {A = ℕ} 0 1 = cc in omega arith

-- Of an accepted call: every check passed, and count and bytes are those that the call gives.
pub record Passed (cs : List Check) (n m : ℕ) (bs xs : List ℕ) : Type 0 where
  pub checks : AllPass cs
  pub same_count : n ≡ m
  pub same_bytes : bs ≡ xs

pub passed : {m : ℕ} {xs : List ℕ} (cs : List Check) (n : ℕ) (bs : List ℕ) → judged cs (accepted n bs) ≡ accepted m xs
    → Passed cs n m bs xs
unfolding judged
passed [] n bs e = record { checks = none; same_count = cc; same_bytes = cc }
passed (check d true ∷ cs) n bs e =
    let p : Passed cs n _ bs _ = passed cs n bs e in
    record { checks = more p.checks; same_count = p.same_count; same_bytes = p.same_bytes }
passed (check d false ∷ cs) n bs e = absurd (refused_not_accepted e)

pub judges : (cs : List Check) (n : ℕ) (bs : List ℕ) → Judges cs n bs (judged cs (accepted n bs))
unfolding judged
judges [] n bs =
    record {
      refuses = λ c. (λ e. absurd (refused_not_accepted (sym e)), λ f. elim f [ ]);
      accepts = (λ e. none, λ p. refl);
      either = inr refl;
    }
judges (check d true ∷ cs) n bs =
    let j : Judges cs n bs (judged cs (accepted n bs)) = judges cs n bs in
    record {
      refuses = λ c. (λ e. later ((j.refuses c).0 e), λ f. (j.refuses c).1 (failure_tail f));
      accepts = (λ e. more (j.accepts.0 e), λ p. elim p [ more q ↦ j.accepts.1 q ]);
      either = j.either;
    }
judges (check d false ∷ cs) n bs =
    record {
      refuses = λ c. (
        λ e. let same : d ≡ c = cc in subst (FirstFailure (check d false ∷ cs)) same here,
        λ f. ap refused (failure_head f),
      );
      accepts = (λ e. absurd (refused_not_accepted e), λ p. elim p [ ]);
      either = inl (d, refl);
    }

-- Lists of passed checks, in parts and joined.
pub pass_head : {c : ℕ} {b : Bool} {cs : List Check} → AllPass (check c b ∷ cs) → b ≡ true
pass_head (more p) = refl

pub pass_tail : {k : Check} {cs : List Check} → AllPass (k ∷ cs) → AllPass cs
pass_tail (more p) = p

pub pass_left : (cs ds : List Check) → AllPass (cs ++ ds) → AllPass cs
pass_left [] ds p = none
pass_left (check c true ∷ cs) ds p = more (pass_left cs ds (pass_tail p))
pass_left (check c false ∷ cs) ds p = elim p [ ]

pub pass_right : (cs ds : List Check) → AllPass (cs ++ ds) → AllPass ds
pass_right [] ds p = p
pass_right (k ∷ cs) ds p = pass_right cs ds (pass_tail p)

pub pass_append : {cs ds : List Check} → AllPass cs → AllPass ds → AllPass (cs ++ ds)
pass_append none q = q
pass_append (more p) q = more (pass_append p q)

pub pass_check : {c : ℕ} {b : Bool} → b ≡ true → AllPass (check c b ∷ [])
pass_check {c} {b} e = subst (λ (t : Bool). AllPass (check c t ∷ [])) (sym e) (more none)

-- A call's contract pins its number and its output: two answers to one outcome, with one output at
-- entry, are equal in both.
pub answers_equal : {o : Outcome} {out : List ℕ} {r r' : ℕ} {exit exit' : List ℕ} → Answers o out r exit
    → Answers o out r' exit' → (r ≡ r') × (exit ≡ exit')
answers_equal a b = (a.number ∙ sym b.number, a.output ∙ sym b.output)

-- An accepted outcome: its answer is the count, and the output afterwards is its bytes.
pub data Accepted : Outcome → Type 0 where
  accepting : (n : ℕ) (bs : List ℕ) → Accepted (accepted n bs)

pub accepted_is : {o : Outcome} → Accepted o → (out : List ℕ) → o ≡ accepted (answer o) (after out o)
unfolding answer after
accepted_is (accepting n bs) out = refl

-- A refused one: its answer is the check's number and a count of 0, and the output keeps its bytes.
pub record Refused (c : ℕ) (out : List ℕ) (o : Outcome) : Type 0 where
  pub number : answer o ≡ c * 2 ^ 32
  pub untouched : after out o ≡ out

pub refused_is : {o : Outcome} {c : ℕ} (out : List ℕ) → o ≡ refused c → Refused c out o
unfolding answer after
refused_is out e = record { number = ap answer e; untouched = ap (after out) e }

-- The first check of a list, where it is known whether it passes.
pub judged_true : {b : Bool} → b ≡ true → (c : ℕ) (cs : List Check) (o : Outcome)
    → judged (check c b ∷ cs) o ≡ judged cs o
unfolding judged
judged_true e c cs o = ap (λ (t : Bool). judged (check c t ∷ cs) o) e

pub judged_false : {b : Bool} → b ≡ false → (c : ℕ) (cs : List Check) (o : Outcome)
    → judged (check c b ∷ cs) o ≡ refused c
unfolding judged
judged_false e c cs o = ap (λ (t : Bool). judged (check c t ∷ cs) o) e
