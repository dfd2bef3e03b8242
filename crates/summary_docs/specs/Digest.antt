-- The digest of a label. Project rule: FNV-1a of 64 bits (Fowler, Noll and Vo), over the text of
-- the label as a CELL has it, in hexadecimal digits.
use Rattle.std.specs.Prelude.{◌*◌, ◌%◌, ◌^◌, ℕ, List, Option, bit_xor, fold}
use Rattle.std.specs.Int.{to_be_bytes, w64}
use Rattle.hex.specs.Hex.{encode_lower}
use Rattle.serde_json.specs.Written.{compact_text}
use Rattle.row_docs.specs.EntriesValues.{label_value}

-- the hash of no byte, of 64 bits
abbrev pub offset_basis : ℕ
offset_basis = 14695981039346656037

-- the prime of 64 bits
abbrev pub fnv_prime : ℕ
fnv_prime = 1099511628211

-- the hash after one byte more: exclusive or, then times the prime
abbrev pub fnv_step : ℕ → ℕ → ℕ
fnv_step hash byte = (bit_xor hash byte * fnv_prime) % 2 ^ 64

-- the hash of these bytes, taken one after another
abbrev pub fnv_1a : List ℕ → ℕ
fnv_1a bytes = fold fnv_step offset_basis bytes

-- the digest of a label, or of a deletion: the hash of its text, the high digits first
abbrev pub digest : Option (List (List ℕ)) → List ℕ
digest label = encode_lower (to_be_bytes w64 (fnv_1a (compact_text (label_value label))))
