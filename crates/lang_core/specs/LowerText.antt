-- Texts of tags and ranges.
use Rattle.std.specs.Prelude.{ℕ, ◌<◌, List, length}

-- project rule: a text of at most 16 bytes takes no memory
abbrev pub TakesMemory : List ℕ → Type 0
TakesMemory text = 16 < length text
