-- What changed between two states of a site, as lines. Project rule.
use Rattle.std.specs.Prelude.{◌≡◌, ◌⊎◌, ℕ, Bool, List, [], ◌∷◌, None, Option, Some, codes, false}
use Rattle.std.specs.Prelude.{true}
use Rattle.serde_json.specs.Data.{Data, array, item, no_items, null, number, string, unsigned}
use Rattle.serde_json.specs.Written.{compact_text}
use Rattle.cell_core.specs.declared.cell.Cell.{Cell}
use Rattle.catalogue.specs.Changes.{AreChanges, Changed, Sides}
use Rattle.cell_core.specs.Entry.{EntryKey}
use Rattle.cata_core.specs.Site.{SiteState}
use Rattle.json_docs.specs.declared.fault.DocFault.{DocFault}
use Rattle.row_docs.specs.Reading.{IsOfDocument}
use Rattle.site_docs.specs.Reading.{ReadsAsSite, RefusesSite}
use Rattle.row_docs.specs.EntriesValues.{label_value}
use Rattle.query_docs.specs.Lines.{line, listed}

-- `[TIME,SITE,COUNT,LABEL]`, or null where there is no cell
abbrev pub side_value : Option Cell → Data
side_value None = null
side_value (Some cell) =
    array (item (number (unsigned cell.stamp.time)) (item (string cell.stamp.site)
    (item (number (unsigned cell.stamp.count)) (item (label_value cell.label) no_items))))

-- `[ID,LANGUAGE,BEFORE,AFTER]`
abbrev pub change_value : EntryKey × Sides → Data
change_value change =
    array (item (string change.0.0) (item (string change.0.1)
    (item (side_value change.1.0) (item (side_value change.1.1) no_items))))

-- the line of a change: the compact text of its array
abbrev pub change_line : EntryKey × Sides → List ℕ
change_line change = line (compact_text (change_value change))

-- `changes N`, then the changes in ascending order of key
abbrev pub changes_lines : Changed → List ℕ
changes_lines changes = listed (codes "changes") change_line changes

-- whether there is a change
abbrev pub has_change : Changed → Bool
has_change [] = false
has_change (change ∷ changes) = true

-- the lines of what changed from the first site to the second, and whether anything did
abbrev pub IsChanged : List ℕ → List ℕ → List ℕ → Bool → Type 0
IsChanged a b doc found =
    (before after : SiteState) × (changes : Changed) × ReadsAsSite a before × ReadsAsSite b after
    × AreChanges before.cells after.cells changes
    × (doc ≡ changes_lines changes) × (found ≡ has_change changes)

-- the first site is refused, then the second
abbrev pub RefusesChanged : List ℕ → List ℕ → DocFault → Type 0
RefusesChanged a b fault =
    IsOfDocument 1 (RefusesSite a) fault
    ⊎ ((before : SiteState) × ReadsAsSite a before × IsOfDocument 2 (RefusesSite b) fault)
