-- The inverse in GF(2^8), defined as x^254, is an inverse: x times it is 1 for every byte but 0.
-- One test, computed for all 256.
use Rattle.std.specs.Prelude.{ℕ, ◌<◌, Bool, ◌≡◌, T, eqb}
use Rattle.std.proofs.Common.{ap, ◌∙◌, ne_eqb}
use Rattle.clefia_spec.specs.Words.{choose}
use Rattle.clefia_spec.specs.Field.{double, add_product, product, squares, inverse}
use Rattle.clefia_laws.specs.FieldLaws.{all_below, agree}

inverted : T (all_below (λ x. eqb (product x (inverse x)) (choose (eqb x 0) 0 1)) 256)
unfolding double add_product product squares inverse
inverted = tt

pub inverse_right : (x : ℕ) → x < 256 → (x ≡ 0 → ⊥) → product x (inverse x) ≡ 1
inverse_right x h nonzero =
    agree (λ x. product x (inverse x)) (λ x. choose (eqb x 0) 0 1) 256 inverted x h
    ∙ ap (λ (b : Bool). choose b 0 1) (ne_eqb x 0 nonzero)
