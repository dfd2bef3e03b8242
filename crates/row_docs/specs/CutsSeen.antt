-- What was kept of a value that was read, without where it lies in memory.
use Rattle.std.specs.Prelude.{◌≡◌, ℕ}
use Rattle.json.specs.Value.{value_view}
use Rattle.serde_json.specs.Data.{Data}
use Rattle.json_docs.specs.ScanningReads.{IsRead, seen}
use Rattle.row_docs.specs.Cuts.{cut_to, texts_to}
use Rattle.row_docs.specs.declared.cuts.Cut.{Cut}

-- what is kept of d, with arrays that nest at most this deep, and how many texts it has
pub record IsCut (levels : ℕ) (d : Data) (cut : Cut) : Type 0 where
  pub read : IsRead (value_view cut.value)
  pub value : seen cut.value ≡ cut_to levels d
  pub texts : cut.texts ≡ texts_to levels d

-- what is kept of a row: a step has a row of a site in it, and that one a label
abbrev pub IsRow : Data → Cut → Type 0
IsRow d cut = IsCut 3 d cut
