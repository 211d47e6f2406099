-- The ways by their numbers, and what check 2 finds of a number.
use Rattle.std.specs.Prelude.{ℕ, Bool, true, false, cond, ◌||◌, ◌≡◌, refl, eqb, Result, Ok, Err}
use Rattle.call_answer.specs.declared.Check.{Check}
use Rattle.call_answer.specs.declared.Check.TheVariants.{Way as Check·Way}
use Rattle.call_checks.specs.declared.Way.{Way}
use Rattle.call_checks.specs.declared.Way.TheVariants.{ByteTables, WordTables, Rules}

abbrev pub way_of : ℕ → Result Way Check
way_of n = cond (eqb n 1) (Ok ByteTables) (cond (eqb n 2) (Ok WordTables) (cond (eqb n 3) (Ok Rules) (Err Check·Way)))

-- A number that has a way passes check 2, and one that has none is refused under it.
module _ (n : ℕ) where
  pub way_known : {w : Way} → Ok w ≡ way_of n → eqb n 1 || eqb n 2 || eqb n 3 ≡ true
  way_known e = known (eqb n 1) (eqb n 2) (eqb n 3) e
    where
      known : (a b c : Bool) {w : Way}
          → Ok w ≡ cond a (Ok ByteTables) (cond b (Ok WordTables) (cond c (Ok Rules) (Err Check·Way)))
          → a || b || c ≡ true
      known true b c e = refl
      known false true c e = refl
      known false false true e = refl
      known false false false e = cc

  pub way_unknown : {k : Check} → Err k ≡ way_of n → (k ≡ Check·Way) × (eqb n 1 || eqb n 2 || eqb n 3 ≡ false)
  way_unknown e = unknown (eqb n 1) (eqb n 2) (eqb n 3) e
    where
      unknown : (a b c : Bool) {k : Check}
          → Err k ≡ cond a (Ok ByteTables) (cond b (Ok WordTables) (cond c (Ok Rules) (Err Check·Way)))
          → (k ≡ Check·Way) × (a || b || c ≡ false)
      unknown true b c e = (cc, cc)
      unknown false true c e = (cc, cc)
      unknown false false true e = (cc, cc)
      unknown false false false e = (cc, refl)
