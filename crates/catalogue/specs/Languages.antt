-- The languages of a catalogue.
use Rattle.std.specs.Prelude.{◌≡◌, ◌&&◌, ℕ, Bool, List, map}
use Rattle.std.specs.List.{list_any}
use Rattle.std.specs.Option.{is_some}
use Rattle.std.specs.Ordering.{is_eq}
use Rattle.std.specs.FinMap.Entries.{find}
use Rattle.cell_core.specs.Keyed.{IsMap}
use Rattle.cell_core.specs.Entry.{text_cmp}
use Rattle.catalogue.specs.Entries.{Entries}

-- languages, each mapped to nothing
abbrev pub LanguageMap : Type 0
LanguageMap = List (List ℕ × Unit {0})

-- the texts of the languages
abbrev pub texts_in : LanguageMap → List (List ℕ)
texts_in langs = map (λ e. e.0) langs

-- whether a language is there
abbrev pub is_in : LanguageMap → List ℕ → Bool
is_in langs lang = is_some (find text_cmp lang langs)

-- whether a language has a live label in some message
abbrev pub is_used : Entries → List ℕ → Bool
is_used cells lang = list_any (λ e. is_some e.1.label && is_eq (text_cmp lang e.0.1)) cells

-- each language that has a live label in some message, once, in ascending order
pub record AreLanguages (cells : Entries) (langs : LanguageMap) : Type 0 where
  pub ascend : IsMap text_cmp langs
  pub each : (lang : List ℕ) → is_in langs lang ≡ is_used cells lang
