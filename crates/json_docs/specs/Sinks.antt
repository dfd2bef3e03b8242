-- What a write of a whole text does to the bytes that a sink has taken. Project rule.
use Rattle.std.specs.Prelude.{◌≡◌, ◌==◌, ◌&&◌, ℕ, Bool, true, not, List, ◌++◌, length, Option}
use Rattle.std.specs.Prelude.{Result, Ok, Err}
use Rattle.std.specs.Io.KnownBytes.{Appends}
use Rattle.json_docs.specs.declared.stream.sinks.Output.{Output}

-- the writer that a sink is over
abbrev pub writer_of : {W : Type 0} → Output W → W
writer_of output = output.writer

-- whether a write to it failed
abbrev pub has_failed : {W : Type 0} → Output W → Bool
has_failed output = output.failed

-- the sink took a front of the text, and nothing else
abbrev pub AppendsFront : Option (List ℕ) → Option (List ℕ) → List ℕ → Type 0
AppendsFront old new text = (front rest : List ℕ) × (text ≡ front ++ rest) × Appends old new front

-- the write failed: it gave an error, or took none of some bytes
abbrev pub stalls : {E : Type 0} → Result ℕ E → List ℕ → Bool
stalls (Ok count) bytes = (count == 0) && not (length bytes == 0)
stalls (Err error) bytes = true
