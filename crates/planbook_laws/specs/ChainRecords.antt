-- What the equations of CBC speak of, record by record. (They are proved in
-- proofs/ChainRecords.antt.)
use Rattle.std.specs.Prelude.{ℕ, zero, suc, ◌*◌, List, take, drop}

-- Record j of a body.
abbrev pub record_at : ℕ → List ℕ → List ℕ
record_at j body = take 16 (drop (16 * j) body)

-- What is before it in a chain of encrypted blocks that begins after p.
unfoldable pub before : ℕ → List ℕ → List ℕ → List ℕ
before zero p encrypted = p
before (suc j) p encrypted = record_at j encrypted
