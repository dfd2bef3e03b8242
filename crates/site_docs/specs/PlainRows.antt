-- Rows as they are written, and what their texts spell.
use Rattle.std.specs.Prelude.{◌≡◌, ℕ, List, Option, string_bytes}
use Rattle.cell_core.specs.MessageId.{IsMessageId}
use Rattle.cell_core.specs.SiteName.{IsSiteName}
use Rattle.lang_core.specs.Lang.{IsLang}
use Rattle.cell_core.specs.Entry.{EntryKey}
use Rattle.catalogue.specs.Entries.{Entry}
use Rattle.row_docs.specs.Fields.{stamp_of}
use Rattle.row_docs.specs.EntriesValues.{Row}
use Rattle.site_docs.specs.declared.plain.rows.Front.{Front}
use Rattle.site_docs.specs.declared.plain.rows.IdText.{IdText}
use Rattle.site_docs.specs.declared.plain.rows.IdText.TheVariants.{Plain, Unescaped}
use Rattle.site_docs.specs.declared.plain.rows.Spelled.{Spelled}

-- the text of an id
abbrev pub text_in : IdText → List ℕ
text_in (Plain text) = text.now
text_in (Unescaped text) = string_bytes text

-- a row without its label
abbrev pub row_in : Front → Row
row_in front = record {
  id = text_in front.id;
  language = front.language.now;
  time = front.time;
  site = front.site.now;
  count = front.count;
}

-- its key, as it is written
abbrev pub key_in : Front → EntryKey
key_in front = (text_in front.id, front.language.now)

-- its entry with this label
abbrev pub entry_in : Front → Option (List (List ℕ)) → Entry
entry_in front label = (key_in front, record { stamp = stamp_of (row_in front); label = label })

-- the values are those that the texts of the row spell
pub record IsSpelled (row : Spelled) : Type 0 where
  pub id : row.id ≡ text_in row.front.id
  pub lang : row.languages ≡ row.front.language.now
  pub site : row.site ≡ row.front.site.now
  pub is_id : IsMessageId (text_in row.front.id)
  pub is_lang : IsLang row.front.language.now
  pub is_site : IsSiteName row.front.site.now
