-- Which texts take memory, by where they lie.
use Rattle.std.specs.String.{string_bytes}
use Rattle.lang_core.specs.LowerText.{TakesMemory}
use Rattle.lang_core.specs.inner.LowerText.{IsNonzeroAscii}
use Rattle.lang_core.specs.declared.lower_text.Kept.{Kept}
use Rattle.lang_core.specs.declared.lower_text.Kept.TheVariants.{Short, Long}

-- only a text of more than sixteen bytes takes memory
abbrev pub IsKept : Kept → Type 0
IsKept (Short text) = Unit {0}
IsKept (Long text) = IsNonzeroAscii (string_bytes text) × TakesMemory (string_bytes text)
