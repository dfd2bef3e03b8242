-- The rows of a document that are shown to a sink.
use Rattle.std.specs.Prelude.{◌≡◌, ◌-◌, List, IfSome, length, option_map, slice_get}
use Rattle.serde_json.specs.Data.{Data}
use Rattle.cell_core.specs.Entry.{EntryKey}
use Rattle.catalogue.specs.Entries.{Entries}
use Rattle.row_docs.specs.Ascending.{MakesEntries, entry_in}
use Rattle.row_docs.specs.declared.version.Version.{Version}
use Rattle.site_docs.specs.declared.document.shown_rows.RowKey.{RowKey}
use Rattle.site_docs.specs.declared.document.shown_rows.ShownRows.{ShownRows}

-- the key as a pair
abbrev pub key_of : RowKey → EntryKey
key_of key = (key.id, key.lang)

-- the rows make cells that the sink has seen, where there was memory for it, and the last key is
-- known
pub record HoldsShown {S : Type 0} (Holds : S → S → Entries → Type 0) (start : S)
    (version : Version) (shown : ShownRows S) (rows : List Data) : Type 0 where
  pub cells : Entries
  pub makes : MakesEntries (entry_in version) rows cells
  pub last : option_map key_of shown.last
      ≡ option_map (λ e. e.0) (slice_get cells (length cells - 1))
  pub seen : IfSome shown.sink (λ sink. Holds start sink cells)
