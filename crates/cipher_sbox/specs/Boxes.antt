-- The two substitutions by number, and the tables that list them.
use Rattle.std.specs.Prelude.{ℕ, zero, suc, ◌<◌, ◌≡◌, List, [], length, get_or}
use Rattle.clefia_spec.specs.Sbox.{s0, s1}
use Rattle.cipher_gf256.specs.Values.{values, value, length_values}

-- S0 is number 0, S1 number 1.
unfoldable pub box : ℕ → ℕ → ℕ
box zero = s0
box (suc i) = s1

-- What a table of 256 bytes for box i holds.
unfoldable pub byte_table : ℕ → List ℕ
byte_table i = values (box i) 0 256

-- Both tables.
unfoldable pub all_byte_tables : List (List ℕ)
all_byte_tables = values byte_table 0 2

pub length_byte_tables : length all_byte_tables ≡ 2
unfolding all_byte_tables
length_byte_tables = length_values byte_table 0 2

-- What a table holds.
pub byte_tables_at : (i x : ℕ) → i < 2 → x < 256 → get_or (get_or all_byte_tables i []) x 0 ≡ box i x
unfolding byte_table all_byte_tables
byte_tables_at i x hi hx = rw (value byte_table 2 i [] hi) (value (box i) 256 x 0 hx)
