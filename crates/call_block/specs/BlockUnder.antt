-- One block under expanded words, by the direction, with its checks 3 and 4.
use Rattle.std.specs.Prelude.{ℕ, Bool, true, false, List, [], ◌≡◌}
use Rattle.clefia_spec.specs.Block.{encrypt_under, decrypt_under}
use Rattle.planbook_spec.specs.Outcome.{Outcome, accepted, judged}
use Rattle.planbook_spec.specs.Checks.{block_checks}

-- One block decrypted (true) or encrypted (false) under expanded words.
unfoldable pub crypt_under : Bool → List ℕ → List ℕ → List ℕ
crypt_under true w block = decrypt_under w block
crypt_under false w block = encrypt_under w block

-- Checks 3 and 4, and then the block.
unfoldable pub block_under : Bool → List ℕ → List ℕ → List ℕ → Outcome
block_under d w block out = judged (block_checks [] block out) (accepted 1 (crypt_under d w block))

-- The block by the test that the code made.
pub block_decrypted : {d : Bool} (w block : List ℕ) {exit : List ℕ} → d ≡ true → exit ≡ decrypt_under w block
    → exit ≡ crypt_under d w block
unfolding crypt_under
block_decrypted w block e g = rw e g

pub block_encrypted : {d : Bool} (w block : List ℕ) {exit : List ℕ} → d ≡ false → exit ≡ encrypt_under w block
    → exit ≡ crypt_under d w block
unfolding crypt_under
block_encrypted w block e g = rw e g
