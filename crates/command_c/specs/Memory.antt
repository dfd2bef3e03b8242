-- Streams in memory (project rules).
use Rattle.std.specs.Prelude.{ℕ, Bool, false, List, [], ◌∷◌, Option, Some}
use Rattle.command_core.specs.OutputStreams.{Reader, Writer, reads, writes}

-- ---- inputs

-- the bytes that an input has left are known
abbrev pub known : List ℕ → Option (List ℕ)
known left = Some left

-- no read of it fails
abbrev pub never : List ℕ → Bool
never left = false

-- an input of these bytes, and what is left of it
abbrev pub given : List ℕ → List ℕ → Reader (List ℕ)
given input left = reads known never input left

-- an input that is not there has a byte left, which no read gives
abbrev pub byte_left : Bool → Option (List ℕ)
byte_left was_read = Some (0 ∷ [])

-- each read of it fails
abbrev pub fails : Bool → Bool
fails was_read = was_read

-- an input that is not there, and whether it was read
abbrev pub absent : Bool → Reader Bool
absent was_read = reads byte_left fails false was_read

-- ---- outputs

-- the bytes that were written, and whether a write failed
pub record KeptBytes : Type 0 where
  pub bytes : List ℕ
  pub failed : Bool

-- the bytes that were written are known
abbrev pub taken_by : KeptBytes → Option (List ℕ)
taken_by kept = Some kept.bytes

-- whether a write failed
abbrev pub has_failed : KeptBytes → Bool
has_failed kept = kept.failed

-- these bytes were written, and no write failed
abbrev pub took : List ℕ → KeptBytes
took bytes = record { bytes = bytes; failed = false }

-- an output to which these bytes are written
abbrev pub keeps : List ℕ → Writer KeptBytes
keeps bytes = writes taken_by has_failed (took []) (took bytes)
