-- The tests of the fields of a row, in their order, and what the fields make. Project rule.
use Rattle.std.specs.Prelude.{◌≡◌, ◌≢◌, ℕ, List, [], ◌∷◌, ◌++◌, Option, None, Some}
use Rattle.std.specs.Str.{str_to_ascii_lowercase}
use Rattle.std.specs.declared.cmp.Ordering.TheVariants.{Less}
use Rattle.cell_core.specs.Label.{IsLabel}
use Rattle.cell_core.specs.MessageId.{IsMessageId}
use Rattle.cell_core.specs.Fault.{RefusesTexts}
use Rattle.cell_core.specs.SiteName.{IsSiteName}
use Rattle.cell_core.specs.declared.cell.Cell.{Cell as HeldCell}
use Rattle.cell_core.specs.declared.fault.CellFault.{CellFault}
use Rattle.cell_core.specs.declared.fault.CellFault.TheVariants.{IdRefused, SiteName}
use Rattle.cell_core.specs.declared.fault.CellFault.TheVariants as cell
use Rattle.cell_core.specs.declared.stamp.Stamp.{Stamp}
use Rattle.cell_core.specs.Entry.{EntryKey, key_cmp}
use Rattle.catalogue.specs.Entries.{Entry}
use Rattle.lang_core.specs.Lang.{RefusesLang, SpellsLang}
use Rattle.lang_core.specs.declared.fault.LangFault.{LangFault}
use Rattle.lang_core.specs.declared.fault.LangFault.TheVariants as lang
use Rattle.json_docs.specs.FaultChecks.{Check, check}
use Rattle.json_docs.specs.declared.fault.DocCause.{DocCause}
use Rattle.json_docs.specs.declared.fault.DocCause.TheVariants.{CellOrder, Field, NoMemory}
use Rattle.json_docs.specs.declared.fault.FieldFault.TheVariants.{Cell, Language}
use Rattle.row_docs.specs.EntriesValues.{Row}

-- ---- what the fields make

-- the key of a row; languages are in lower case
abbrev pub key_of : Row → EntryKey
key_of row = (row.id, str_to_ascii_lowercase row.language)

-- the stamp of a row
abbrev pub stamp_of : Row → Stamp
stamp_of row = record { time = row.time; site = row.site; count = row.count }

-- the cell of a row with these texts: a deletion where there are none
abbrev pub cell_of : Row → Option (List (List ℕ)) → HeldCell
cell_of row texts = record { stamp = stamp_of row; label = texts }

-- the key and the stamp of a row
abbrev pub stamped_of : Row → EntryKey × Stamp
stamped_of row = (key_of row, stamp_of row)

-- the key and the cell of a row with this label
abbrev pub entry_of : Row → Option (List (List ℕ)) → Entry
entry_of row texts = (key_of row, cell_of row texts)

-- ---- the tests of fields

-- the bytes spell some language
abbrev pub IsSpelled : List ℕ → Type 0
IsSpelled text = (lang : List ℕ) × SpellsLang text lang

-- e says why the text of row k is no language
abbrev pub IsLanguageRefusal : ℕ → List ℕ → DocCause → Type 0
IsLanguageRefusal k text e = (fault : LangFault) × (fault ≢ lang.NoMemory) × RefusesLang text fault
    × (e ≡ Field k (Language fault))

-- no texts are a deletion
abbrev pub IsLabelText : Option (List (List ℕ)) → Type 0
IsLabelText None = Unit {0}
IsLabelText (Some texts) = IsLabel texts

-- e says why the texts of row k are no label
abbrev pub IsLabelRefusal : ℕ → Option (List (List ℕ)) → DocCause → Type 0
IsLabelRefusal k None e = ⊥
IsLabelRefusal k (Some texts) e = (fault : CellFault) × RefusesTexts texts fault
    × (e ≡ Field k (Cell fault))

-- the id of row k is a message id, or is refused
abbrev pub id_check : ℕ → List ℕ → Check
id_check k id = check (IsMessageId id) (Field k (Cell IdRefused))

-- the text of row k spells a language, or is refused as none
abbrev pub language_check : ℕ → List ℕ → Check
language_check k text = record { passes = IsSpelled text; refuses = IsLanguageRefusal k text }

-- the text of row k's site is a site's name, or is refused
abbrev pub site_check : ℕ → List ℕ → Check
site_check k site = check (IsSiteName site) (Field k (Cell SiteName))

-- the texts of row k are a label or a deletion, or are refused
abbrev pub label_check : ℕ → Option (List (List ℕ)) → Check
label_check k texts = record { passes = IsLabelText texts; refuses = IsLabelRefusal k texts }

-- the fields of a row without a label
abbrev pub stamp_fields : ℕ → Row → List Check
stamp_fields k row = id_check k row.id ∷ language_check k row.language ∷ site_check k row.site ∷ []

-- the fields of a row with a label
abbrev pub cell_fields : ℕ → Row → Option (List (List ℕ)) → List Check
cell_fields k row texts = stamp_fields k row ++ label_check k texts ∷ []

-- the key is greater than that of the row before
abbrev pub IsAfter : Option EntryKey → EntryKey → Type 0
IsAfter None key = Unit {0}
IsAfter (Some last) key = key_cmp last key ≡ Less

-- the key of row k is greater than the last one, or is refused (21)
abbrev pub order_check : ℕ → Option EntryKey → EntryKey → Check
order_check k last key = check (IsAfter last key) (CellOrder k)

-- the refusal of a field of row k; out of memory has no row
abbrev pub cell_cause : ℕ → CellFault → DocCause
cell_cause k cell.NoMemory = NoMemory
cell_cause k fault = Field k (Cell fault)
