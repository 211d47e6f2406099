-- One step of a chain, on words: the block that it gives, and the chain that follows.
use Rattle.std.specs.Prelude.{ℕ, List}
use Rattle.clefia_spec.specs.Words.{xors}
use Rattle.clefia_spec.specs.Block.{encrypt_words, decrypt_words}
use Rattle.book_chain.specs.declared.Chain.{Chain}

-- The block that a step answers, and the chain that it leaves.
pub record Step : Type 0 where
  pub block : List ℕ
  pub next : Chain

-- The block is added to the one before it, and then encrypted.
abbrev pub encrypt_step : List ℕ → Chain → List ℕ → Step
encrypt_step w c b =
    record {
      block = encrypt_words w (xors c.previous b);
      next = record { previous = encrypt_words w (xors c.previous b) };
    }

abbrev pub decrypt_step : List ℕ → Chain → List ℕ → Step
decrypt_step w c b = record { block = xors c.previous (decrypt_words w b); next = record { previous = b } }
