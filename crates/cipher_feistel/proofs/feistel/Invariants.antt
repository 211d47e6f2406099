-- `cipher_feistel::feistel` meets its contract: the pairs before the turn's are as after the step,
-- the others as before it.
use Rattle.std.specs.Prelude.{ℕ, ◌*◌, ◌<◌, ◌≤◌, ◌≡◌, length, get_or}
use Rattle.clefia_spec.specs.FFunction.{f0, f1}
use Rattle.clefia_spec.specs.Network.{feistel}
use Rattle.cipher_feistel.proofs.feistel.Given as goal

abbrev pub invariant-loop-i : goal.invariant-loop-i
invariant-loop-i g l =
    (length l.t ≡ length l.s)
    × ((k : ℕ) → k < 2 * l.i → get_or l.t k 0 ≡ get_or (feistel f0 f1 l.expanded l.at l.s) k 0)
    × ((k : ℕ) → 2 * l.i ≤ k → get_or l.t k 0 ≡ get_or l.s k 0)
