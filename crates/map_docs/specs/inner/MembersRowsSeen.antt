-- Rows that were read, without where they lie in memory, and what is made of them.
use Rattle.std.specs.Prelude.{◌≡◌, ◌⊎◌, ◌++◌, All, unwrap_or, true, false, ℕ, List, [], ◌∷◌, map}
use Rattle.std.specs.Prelude.{Option, None, Some, is_some, option_map, String, Vec, string_bytes}
use Rattle.std.specs.BTreeMap.{is_at}
use Rattle.std.specs.List.{filter_map, list_any}
use Rattle.std.specs.List.Sorted.{IsPermutation, IsStrictlySortedBy}
use Rattle.std.specs.Map.{keys_of, lookup}
use Rattle.std.specs.Str.{bytes_eq, str_to_ascii_lowercase}
use Rattle.std.specs.String.{string_cmp}
use Rattle.std.specs.declared.alloc.Global.{Global}
use Rattle.std.specs.declared.cmp.Ordering.TheVariants.{Less}
use Rattle.cell_core.specs.Label.{texts_of}
use Rattle.cell_core.specs.Keyed.{IsMap}
use Rattle.cell_core.specs.Entry.{text_cmp}
use Rattle.catalogue.specs.CatalogueFlat.{under}
use Rattle.map_docs.specs.LabelsChecks.{is_marked}
use Rattle.map_docs.specs.MapsLabels.{languages_of}
use Rattle.map_docs.specs.MembersRows.{Keys, Rows, Strings}
use Rattle.map_docs.specs.Maps.{Labelled}
use Rattle.map_docs.specs.MapsValue.{Languages}

-- the strings of a value as they are kept, or none where it has not the shape of a label
abbrev pub HeldStrings : Type 0
HeldStrings = Option (Vec (String Global) Global)

-- the keys of a language map as they are kept, each with its strings
abbrev pub HeldKeys : Type 0
HeldKeys = Vec (String Global × HeldStrings) Global

-- the members of a document as they are kept, each with its keys
abbrev pub HeldRows : Type 0
HeldRows = Vec (String Global × Option HeldKeys) Global

-- the names ascend
abbrev pub AreSorted : {X : Type 0} → List (String Global × X) → Type 0
AreSorted es = IsStrictlySortedBy string_cmp (keys_of es)

-- the bytes of the strings that are kept
abbrev pub strings_seen : HeldStrings → Strings
strings_seen held = option_map (λ texts. texts_of texts.items) held

-- the names of members, each with what is seen of its value
abbrev pub members_seen : {X Y : Type 0} → (X → Y) → List (String Global × X) → List (List ℕ × Y)
members_seen of es = map (λ e. (string_bytes e.0, of e.1)) es

-- the bytes of the keys that are kept, each with its strings
abbrev pub keys_seen : List (String Global × HeldStrings) → Keys
keys_seen = members_seen strings_seen

-- the same of keys that may be absent
abbrev pub keys_in_seen : Option HeldKeys → Option Keys
keys_in_seen held = option_map (λ keys. keys_seen keys.items) held

-- the bytes of the members that are kept, each with its keys
abbrev pub rows_seen : List (String Global × Option HeldKeys) → Rows
rows_seen = members_seen keys_in_seen

-- the same of members that may be absent
abbrev pub rows_in_seen : Option HeldRows → Option Rows
rows_in_seen held = option_map (λ rows. rows_seen rows.items) held

-- languages, with the label of those that have one
abbrev pub Found : Type 0
Found = List (List ℕ × Option (List (List ℕ)))

-- the languages that have a label, each with it
abbrev pub live : Found → Languages
live found = filter_map (λ e. option_map (λ texts. (e.0, texts)) e.1) found

-- the keys in lower case were found, and their labels
pub record HoldsKeys (keys : Keys) (found : Found) : Type 0 where
  pub held : (q : List ℕ)
      → is_some (lookup (is_at (text_cmp q)) found)
      ≡ list_any (λ m. bytes_eq (str_to_ascii_lowercase m.0) q) keys
  pub labels : IsPermutation (languages_of keys) (live found)
  pub map : IsMap text_cmp found

-- what the texts of a key give
abbrev pub IsOneLabel : List (List ℕ) → Option (List (List ℕ)) → Type 0
IsOneLabel [] label = label ≡ None
IsOneLabel (t ∷ ts) label = label ≡ Some (t ∷ ts)

-- the labels grew by those of these keys, in ascending order
abbrev pub AddsLanguages : List Labelled → List Labelled → List ℕ → Keys → Type 0
AddsLanguages old new id keys =
    (languages : Languages) × IsPermutation (languages_of keys) languages × IsMap text_cmp languages
    × (new ≡ old ++ under id languages)

-- the messages of the labels are smaller than this one
abbrev pub AreLesser : List Labelled → List ℕ → Type 0
AreLesser labels id = All (λ e. text_cmp e.0.0 id ≡ Less) labels

-- the labels grew by those of a row, if it is no skipped one
abbrev pub AddsRow : List Labelled → List Labelled → List ℕ × Option Keys → Type 0
AddsRow old new r =
    ((is_marked r.0 ≡ true) × (new ≡ old))
    ⊎ ((is_marked r.0 ≡ false) × AddsLanguages old new r.0 (unwrap_or r.1 []))
