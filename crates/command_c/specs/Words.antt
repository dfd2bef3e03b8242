-- The arguments of the command, as C passes them (project rules).
use Rattle.std.specs.Prelude.{◌≡◌, ◌⊎◌, ℕ, List, [], ◌∷◌, IsUtf8}
use Rattle.std_io.specs.declared.io.kind.ErrorKind.{ErrorKind}
use Rattle.std_io.specs.declared.io.kind.ErrorKind.TheVariants.{InvalidData, OutOfMemory}

-- each argument is a text
abbrev pub AreUtf8 : List (List ℕ) → Type 0
AreUtf8 [] = Unit {0}
AreUtf8 (word ∷ words) = IsUtf8 word × AreUtf8 words

-- why there are no texts of these arguments: one is none, or memory ended
abbrev pub LacksTexts : List (List ℕ) → ErrorKind → Type 0
LacksTexts words kind = ((kind ≡ InvalidData) × (¬ AreUtf8 words)) ⊎ (kind ≡ OutOfMemory)
