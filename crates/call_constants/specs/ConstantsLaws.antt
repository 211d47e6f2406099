-- The call for the constants: what it answers where the key length is permitted, and where not.
use Rattle.std.specs.Prelude.{ℕ, ◌*◌, ◌≢◌, List, [], ◌∷◌, ◌≡◌, length, Result}
use Rattle.std.proofs.Common.{sym, ap, ◌∙◌}
use Rattle.clefia_spec.specs.Words.{bytes_of, KeyLength}
use Rattle.clefia_spec.specs.Constants.{constants}
use Rattle.clefia_laws.specs.KeyLaws.{length_constants}
use Rattle.call_answer.specs.Answer.{Answered}
use Rattle.planbook_spec.specs.Outcome.{refused, accepted, judged}
use Rattle.planbook_spec.specs.Checks.{output_check, constant_count, constants_call}
use Rattle.planbook_laws.specs.CheckLaws.{key_accepted, key_refused}

pub constants_checked : {n : ℕ} (out : List ℕ) → KeyLength n
    → constants_call n out ≡ judged (output_check (4 * length (constants n)) out ∷ [])
    (accepted (length (constants n)) (bytes_of (constants n)))
unfolding constants_call constant_count
constants_checked {n} out k = key_accepted _ _ k
    ∙ ap (λ (m : ℕ). judged (output_check (4 * m) out ∷ []) (accepted m (bytes_of (constants n))))
    (sym (length_constants k))

pub answered_constants : {n keyLength : ℕ} {ws out exit : List ℕ} {r : Result ℕ ℕ} → KeyLength n → keyLength ≡ n
    → ws ≡ constants n
    → Answered (judged (output_check (4 * length ws) out ∷ []) (accepted (length ws) (bytes_of ws))) out r exit
    → Answered (constants_call keyLength out) out r exit
answered_constants {out = out} k s e g = rw (s, constants_checked out k, ← e) g

pub constants_refused : (keyLength : ℕ) (out : List ℕ) → keyLength ≢ 16 → keyLength ≢ 24 → keyLength ≢ 32
    → constants_call keyLength out ≡ refused 1
unfolding constants_call
constants_refused keyLength out a b c = key_refused _ _ keyLength a b c
