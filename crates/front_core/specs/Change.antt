-- Changes of one label: how they are read, and what they make of a site (project rules).
use Rattle.std.specs.Prelude.{◌≡◌, ◌⊎◌, ◌∷◌, [], ℕ, List, None, Some}
use Rattle.std.specs.FinMap.Entries.{put}
use Rattle.std.specs.Str.{IsUtf8}
use Rattle.std.specs.Str.Lossy.{utf8_valid_len}
use Rattle.lang_core.specs.Lang.{SpellsLang, RefusesLang}
use Rattle.cell_core.specs.Label.{IsLabel}
use Rattle.cell_core.specs.Fault.{RefusesLabel, RefusesTexts}
use Rattle.cell_core.specs.declared.fault.CellFault.{CellFault}
use Rattle.cell_core.specs.Stamp.{IsNext}
use Rattle.cell_core.specs.declared.stamp.Stamp.{Stamp}
use Rattle.cell_core.specs.Entry.{EntryKey, key_cmp}
use Rattle.catalogue.specs.CatalogueLatest.{latest_of}
use Rattle.cata_core.specs.Site.{RefusesEdit, SiteState}
use Rattle.json_docs.specs.Faults.{of_no_document}
use Rattle.json_docs.specs.declared.fault.DocCause.TheVariants.{NotUtf8}
use Rattle.front_core.specs.Fault.{IsOf, cell_fault, language_fault, site_fault}
use Rattle.front_core.specs.Preferences.{Text}
use Rattle.front_core.specs.Ask.{IsId, RefusesId}
use Rattle.front_core.specs.declared.change.Change.{Change}
use Rattle.front_core.specs.declared.fault.FrontFault.{FrontFault}
use Rattle.front_core.specs.declared.fault.FrontFault.TheVariants.{Document, NoMemory}
use Rattle.cell_core.specs.declared.fault.CellFault.TheVariants as cell

-- ---- keys and texts

-- the message and the language that the bytes spell
abbrev pub IsKey : Text → Text → EntryKey → Type 0
IsKey id lang key = IsId id × (key.0 ≡ id) × SpellsLang lang key.1

-- the bytes spell some message and some language
abbrev pub HasKey : Text → Text → Type 0
HasKey id lang = IsId id × (spelled : Text) × SpellsLang lang spelled

-- the id is refused first, and then the language
abbrev pub RefusesKey : Text → Text → FrontFault → Type 0
RefusesKey id lang fault = RefusesId id fault
    ⊎ (IsId id × IsOf language_fault (RefusesLang lang) fault)

-- the bytes are the text of a label
abbrev pub HasLabel : Text → Type 0
HasLabel text = IsUtf8 text × IsLabel (text ∷ [])

-- the refusal of a text whose longest valid prefix has this length
abbrev pub not_utf8 : ℕ → FrontFault
not_utf8 offset = Document (of_no_document (NotUtf8 offset))

-- bytes that are not UTF-8 are refused first, and then a text that is none of a label; memory may
-- end as soon as the bytes are known to be a text
abbrev pub RefusesLabelText : Text → FrontFault → Type 0
RefusesLabelText text fault =
    ((¬ IsUtf8 text) × (fault ≡ not_utf8 (utf8_valid_len text)))
    ⊎ (IsUtf8 text × ((fault ≡ NoMemory) ⊎ IsOf cell_fault (RefusesLabel (text ∷ [])) fault))

-- ---- what a change is to do

-- the text as the one text of a label, at the key that the bytes spell
abbrev pub IsPut : Text → Text → Text → Change → Type 0
IsPut id lang text change = IsKey id lang (change.id, change.lang) × HasLabel text
    × (change.label ≡ Some (text ∷ []))

-- the id is refused first, then the language, and then the text
abbrev pub RefusesPut : Text → Text → Text → FrontFault → Type 0
RefusesPut id lang text fault = RefusesKey id lang fault
    ⊎ (HasKey id lang × RefusesLabelText text fault)

-- these texts as the label, at the key that the bytes spell
abbrev pub IsPutOf : Text → Text → List Text → Change → Type 0
IsPutOf id lang texts change = IsKey id lang (change.id, change.lang) × IsLabel texts
    × (change.label ≡ Some texts)

-- why the texts are no label; they are copied first, so memory may end before
abbrev pub RefusesLabelTexts : List Text → CellFault → Type 0
RefusesLabelTexts texts cell.NoMemory = Unit {0}
RefusesLabelTexts texts fault = RefusesTexts texts fault

-- the id is refused first, then the language, and then the texts
abbrev pub RefusesPutOf : Text → Text → List Text → FrontFault → Type 0
RefusesPutOf id lang texts fault = RefusesKey id lang fault
    ⊎ (HasKey id lang × IsOf cell_fault (RefusesLabelTexts texts) fault)

-- no label, at the key that the bytes spell
abbrev pub IsDelete : Text → Text → Change → Type 0
IsDelete id lang change = IsKey id lang (change.id, change.lang) × (change.label ≡ None)

-- ---- what it makes of a site

-- the key has the label of the change, with the next stamp of the site
abbrev pub IsChanged : ℕ → Change → SiteState → SiteState → Type 0
IsChanged now change old new =
    (stamp : Stamp) × IsNext (latest_of old.cells) now old.name stamp
    × (new ≡ record {
      name = old.name;
      cells =
          put key_cmp (change.id, change.lang) (record { stamp = stamp; label = change.label })
          old.cells;
    })

-- the site has no next stamp, or memory ended
abbrev pub RefusesChange : SiteState → ℕ → FrontFault → Type 0
RefusesChange site now = IsOf site_fault (RefusesEdit site now)
