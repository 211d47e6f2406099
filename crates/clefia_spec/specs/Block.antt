-- One block of 16 bytes, encrypted and decrypted, under an expanded key w and under a key.
-- (Document 01's terms: sealing and opening.)
use Rattle.std.specs.Prelude.{ℕ, ◌-◌, ◌/◌, List, [], ◌∷◌, length, get_or}
use Rattle.clefia_spec.specs.Words.{bytes_of, words_of, xors}
use Rattle.clefia_spec.specs.Network.{network4, inverse_network4}
use Rattle.clefia_spec.specs.KeySchedule.{expand_key}

-- Two whitening words, added to the second and the fourth branch.
unfoldable pub whiten : ℕ → ℕ → List ℕ → List ℕ
whiten a b s = xors (0 ∷ a ∷ 0 ∷ b ∷ []) s

-- 18, 22 or 26 rounds, by the number of words: four whiten, and each round takes two.
unfoldable pub round_count : List ℕ → ℕ
round_count w = (length w - 4) / 2

unfoldable pub encrypt_words : List ℕ → List ℕ → List ℕ
encrypt_words w s = whiten (get_or w 2 0) (get_or w 3 0)
    (network4 (round_count w) w 4 (whiten (get_or w 0 0) (get_or w 1 0) s))

unfoldable pub decrypt_words : List ℕ → List ℕ → List ℕ
decrypt_words w s = whiten (get_or w 0 0) (get_or w 1 0)
    (inverse_network4 (round_count w) w 4 (whiten (get_or w 2 0) (get_or w 3 0) s))

-- A block of 16 bytes under an expanded key.
unfoldable pub encrypt_under : List ℕ → List ℕ → List ℕ
encrypt_under w block = bytes_of (encrypt_words w (words_of 4 block))

unfoldable pub decrypt_under : List ℕ → List ℕ → List ℕ
decrypt_under w block = bytes_of (decrypt_words w (words_of 4 block))

-- A block of 16 bytes under a key of 16, 24 or 32 bytes.
unfoldable pub encrypt : List ℕ → List ℕ → List ℕ
encrypt key block = encrypt_under (expand_key key) block

unfoldable pub decrypt : List ℕ → List ℕ → List ℕ
decrypt key block = decrypt_under (expand_key key) block
