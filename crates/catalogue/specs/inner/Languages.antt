-- Languages as they are gathered.
use Rattle.std.specs.Prelude.{◌≡◌, ◌||◌, ℕ, List}
use Rattle.std.specs.Ordering.{is_eq}
use Rattle.cell_core.specs.Keyed.{IsMap}
use Rattle.cell_core.specs.Entry.{text_cmp}
use Rattle.catalogue.specs.Languages.{LanguageMap, is_in}

-- one language more, where it is not there yet
pub record AddsLanguage (old : LanguageMap) (lang : List ℕ) (new : LanguageMap) : Type 0 where
  pub ascend : IsMap text_cmp new
  pub each : (other : List ℕ) → is_in new other ≡ (is_eq (text_cmp other lang) || is_in old other)
