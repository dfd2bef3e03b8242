-- One argument of the command, as C passes it.
use Rattle.std.specs.Prelude.{◌≡◌, ◌⊎◌, ℕ, List, IsUtf8}
use Rattle.std_io.specs.declared.io.kind.ErrorKind.{ErrorKind}
use Rattle.std_io.specs.declared.io.kind.ErrorKind.TheVariants.{InvalidData, OutOfMemory}

-- why there is no text of an argument: it is none, or memory ended
abbrev pub LacksText : List ℕ → ErrorKind → Type 0
LacksText word kind = ((kind ≡ InvalidData) × (¬ IsUtf8 word)) ⊎ (kind ≡ OutOfMemory)
