-- Language maps as JSON (JSON-LD 1.1, section 9.8). Project rules: the outer object goes from
-- message ids to language maps, one text is a string, and a message without a label is left out.
use Rattle.std.specs.Prelude.{ℕ, List, [], ◌∷◌, if◌then◌else◌}
use Rattle.std.specs.Str.{bytes_eq}
use Rattle.serde_json.specs.Data.{Data, string, object, Members, no_members, member}
use Rattle.row_docs.specs.EntriesValues.{texts_value}
use Rattle.map_docs.specs.Maps.{Labelled}

-- languages with the texts of their labels
abbrev pub Languages : Type 0
Languages = List (List ℕ × List (List ℕ))

-- messages with their languages
abbrev pub Messages : Type 0
Messages = List (List ℕ × Languages)

-- the label goes to the first message where that is its own, else to a new one before it
abbrev pub with_label : Labelled → Messages → Messages
with_label e [] = (e.0.0, (e.0.1, e.1) ∷ []) ∷ []
with_label e (m ∷ ms) =
    if bytes_eq e.0.0 m.0 then (e.0.0, (e.0.1, e.1) ∷ m.1) ∷ ms
    else (e.0.0, (e.0.1, e.1) ∷ []) ∷ m ∷ ms

-- labels in ascending order of key, by their messages
abbrev pub by_message : List Labelled → Messages
by_message [] = []
by_message (e ∷ es) = with_label e (by_message es)

-- one text is a string, several are an array of strings
abbrev pub language_value : List (List ℕ) → Data
language_value [] = texts_value []
language_value (t ∷ []) = string t
language_value (t ∷ u ∷ ts) = texts_value (t ∷ u ∷ ts)

-- `"LANGUAGE":LABEL,..`
abbrev pub languages_members : Languages → Members
languages_members [] = no_members
languages_members (l ∷ ls) = member l.0 (language_value l.1) (languages_members ls)

-- `"ID":{"LANGUAGE":LABEL,..},..`
abbrev pub messages_members : Messages → Members
messages_members [] = no_members
messages_members (m ∷ ms) = member m.0 (object (languages_members m.1)) (messages_members ms)

-- `{"ID":{"LANGUAGE":LABEL,..},..}`
abbrev pub langmaps_value : List Labelled → Data
langmaps_value labels = object (messages_members (by_message labels))
