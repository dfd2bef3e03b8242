use Rattle.std.specs.Prelude.{ℕ, List}
use Rattle.std.specs.String.{string_bytes}
use Rattle.lang_core.specs.declared.lower_text.Kept.{Kept}
use Rattle.lang_core.specs.declared.lower_text.Kept.TheVariants.{Short, Long}

-- the bytes of a text, wherever they lie
abbrev pub kept_bytes : Kept → List ℕ
kept_bytes (Short text) = text
kept_bytes (Long text) = string_bytes text
