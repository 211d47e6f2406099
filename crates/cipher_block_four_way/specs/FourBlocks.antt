-- Four blocks that follow each other in a body, decrypted.
use Rattle.std.specs.Prelude.{ℕ, ◌+◌, List, drop}
use Rattle.clefia_spec.specs.Words.{words_of}
use Rattle.clefia_spec.specs.Block.{decrypt_words}
use Rattle.cipher_network4_four_way.specs.declared.FourStates.{FourStates}
use Rattle.cipher_network4_four_way.specs.Four.{each}

abbrev pub decrypted_four : List ℕ → List ℕ → ℕ → FourStates
decrypted_four w body at =
    each (decrypt_words w)
    (record {
      a = words_of 4 (drop at body);
      b = words_of 4 (drop (at + 16) body);
      c = words_of 4 (drop (at + 16 + 16) body);
      d = words_of 4 (drop (at + 16 + 16 + 16) body);
    })
