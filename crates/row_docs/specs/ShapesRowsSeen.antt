-- A row that was read, without where it lies in memory.
use Rattle.std.specs.Prelude.{◌≡◌, ℕ, List, [], true, map, Option, None, Some, is_some, option_map}
use Rattle.std.specs.Prelude.{unwrap_or}
use Rattle.std.specs.Borrow.{Bor}
use Rattle.cell_core.specs.SiteName.{padded_name}
use Rattle.json.specs.declared.value.Value.{Value}
use Rattle.json_docs.specs.ScanningReads.{seen}
use Rattle.json_docs.specs.Parts.{texts_in}
use Rattle.row_docs.specs.EntriesValues.{Row as Plain}
use Rattle.row_docs.specs.declared.shapes.CellRow.{CellRow}
use Rattle.row_docs.specs.declared.shapes.Row.{Row}
use Rattle.row_docs.specs.declared.shapes.SiteText.{SiteText}
use Rattle.row_docs.specs.declared.shapes.SiteText.TheVariants.{Number, Name}

-- the site's name; of a number its padded name, as in version 1
abbrev pub site_of : SiteText → List ℕ
site_of (Number n) = padded_name n
site_of (Name text) = text.now

-- the row with the bytes of its texts
abbrev pub row_of : Row → Plain
row_of row = record {
  id = row.id.now;
  language = row.language.now;
  time = row.time;
  site = site_of row.site;
  count = row.count;
}

-- the texts of values that are texts
abbrev pub texts_of : {A : Type 0} → List (Value A) → List (List ℕ)
texts_of values = unwrap_or (texts_in (map seen values)) []

-- the same with the texts of its label; none in a deletion
abbrev pub cell_of : CellRow → Plain × Option (List (List ℕ))
cell_of cell = (row_of cell.row, option_map (λ values. texts_of values.now) cell.texts)

-- the values of a label are texts
abbrev pub AreTexts : {A : Type 0} → List (Value A) → Type 0
AreTexts values = is_some (texts_in (map seen values)) ≡ true

-- they are texts where the row has a label
abbrev pub AreTextsOf : {A : Type 0} → Option (Bor (List (Value A))) → Type 0
AreTextsOf None = Unit {0}
AreTextsOf (Some values) = AreTexts values.now
