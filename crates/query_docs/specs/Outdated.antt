-- What a translator has to look at again: messages whose label is older than their source's.
-- Project rule.
use Rattle.std.specs.Prelude.{◌≡◌, ◌<◌, ℕ, Bool, List, None, Option, Some, false, filter, is_some}
use Rattle.std.specs.Prelude.{nat_lt, option_and_then, option_map, true}
use Rattle.std.specs.FinMap.Entries.{find}
use Rattle.cell_core.specs.declared.cell.Cell.{Cell}
use Rattle.cell_core.specs.Entry.{EntryKey, key_cmp}
use Rattle.catalogue.specs.Entries.{Entries}
use Rattle.cata_core.specs.Site.{SiteState}
use Rattle.site_docs.specs.Reading.{ReadsAsSite}
use Rattle.map_docs.specs.WritingTexts.{AreWritten}
use Rattle.map_docs.specs.Maps.{Labelled}
use Rattle.query_docs.specs.Exporting.{live_labels}

-- the time of a cell that has a label
abbrev pub labelled_at : Option Cell → Option ℕ
labelled_at cell = option_and_then (λ c. option_map (λ _. c.stamp.time) c.label) cell

-- the time of a key's live label
abbrev pub live_time : EntryKey → Entries → Option ℕ
live_time key cells = labelled_at (find key_cmp key cells)

-- both are there, and the first is smaller
abbrev pub is_before : Option ℕ → Option ℕ → Bool
is_before None other = false
is_before (Some time) None = false
is_before (Some time) (Some other) = nat_lt time other

-- the message has a live label in both languages, and that of the source has the greater time
abbrev pub is_outdated : List ℕ → List ℕ → Entries → List ℕ → Bool
is_outdated lang source cells id = is_before (live_time (id, lang) cells) (live_time
    (id, source) cells)

-- the live labels of these messages
abbrev pub outdated_labels : List ℕ → List ℕ → Entries → List Labelled
outdated_labels lang source cells = filter (λ e. is_outdated lang source cells e.0.0)
    (live_labels cells)

-- the language maps of these labels of the site, and whether there is one
abbrev pub IsOutdated : List ℕ → List ℕ → List ℕ → List ℕ → Bool → Type 0
IsOutdated bytes lang source doc found =
    (site : SiteState) × ReadsAsSite bytes site
    × AreWritten (outdated_labels lang source site.cells) doc found

-- the same of a message as a relation: its cells in both languages have labels, and the time of the
-- source's cell is greater
pub record IsOutdatedMessage (lang source : List ℕ) (cells : Entries) (id : List ℕ) : Type 0 where
  pub own : Cell
  pub other : Cell
  pub own_at : find key_cmp (id, lang) cells ≡ Some own
  pub other_at : find key_cmp (id, source) cells ≡ Some other
  pub own_label : is_some own.label ≡ true
  pub other_label : is_some other.label ≡ true
  pub later : own.stamp.time < other.stamp.time
