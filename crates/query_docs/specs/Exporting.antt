-- The live labels of a catalogue.
use Rattle.std.specs.Prelude.{ℕ, List, Option, option_and_then}
use Rattle.std.specs.FinMap.Entries.{find}
use Rattle.std.specs.List.{filter_map}
use Rattle.std.specs.Option.{option_map}
use Rattle.cell_core.specs.Entry.{EntryKey, key_cmp}
use Rattle.catalogue.specs.Entries.{Entries}
use Rattle.cata_core.specs.Site.{SiteState}
use Rattle.site_docs.specs.Reading.{ReadsAsSite}
use Rattle.map_docs.specs.WritingTexts.{IsTextOf}
use Rattle.map_docs.specs.Maps.{Labelled}

-- the keys whose cells have a label, each with its texts, in ascending order
abbrev pub live_labels : Entries → List Labelled
live_labels es = filter_map (λ e. option_map (λ label. (e.0, label)) e.1.label) es

-- the texts of a key's live label; none where it is deleted or there is no cell
abbrev pub label_at : EntryKey → Entries → Option (List (List ℕ))
label_at key es = option_and_then (λ c. c.label) (find key_cmp key es)

-- the language maps of the site's live labels
abbrev pub IsExported : List ℕ → List ℕ → Type 0
IsExported bytes doc =
    (site : SiteState) × ReadsAsSite bytes site × IsTextOf (live_labels site.cells) doc
