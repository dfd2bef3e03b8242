-- Numbers of a text's bytes.
use Rattle.std.specs.Prelude.{ℕ, List, [], ◌∷◌, ◌+◌, ◌*◌, nat_lt, zero, suc, if◌then◌else◌, ◌%◌}
use Rattle.std.specs.Prelude.{slice_index, length, fold}

-- what a byte counts before k others
abbrev pub worth : ℕ → ℕ
worth zero = 1
worth (suc k) = 256 * worth k

-- The first k bytes as a number in base 256, with zeros past the end. What is no byte counts as
-- more than any byte.
unfoldable pub head_from : ℕ → List ℕ → ℕ
head_from zero text = 0
head_from (suc k) [] = 0
head_from (suc k) (b ∷ text) = if nat_lt b 256 then
    b * worth k + head_from k text else worth (suc k)

-- the first eight bytes
unfoldable pub head_of : List ℕ → ℕ
head_of text = head_from 8 text

-- a number of a text, below 1024, by its first two bytes and its length
unfoldable pub slot_of : List ℕ → ℕ
slot_of text =
    (slice_index text 0 % 32 * 32 + slice_index text 1 % 32 + length text % 32 * 173) % 1024

-- a number of a subtag, below 65,536
abbrev pub fingerprint_step : ℕ → ℕ → ℕ
fingerprint_step fingerprint byte = (fingerprint * 31 % 65536 + byte) % 65536

-- the number of a whole subtag, byte after byte
unfoldable pub fingerprint_of : List ℕ → ℕ
fingerprint_of subtag = fold fingerprint_step 0 subtag
