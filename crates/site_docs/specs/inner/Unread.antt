-- Why a text of a row spells no value.
use Rattle.std.specs.Prelude.{⊤}
use Rattle.site_docs.specs.declared.plain.unread.Unread.{Unread}
use Rattle.site_docs.specs.declared.plain.unread.Unread.TheVariants.{NoMemory, NotWritten}

-- it is no such text as is written, or memory ran out
abbrev pub RefusesSpelling : Type 0 → Unread → Type 0
RefusesSpelling IsWritten NotWritten = ¬ IsWritten
RefusesSpelling IsWritten NoMemory = ⊤
