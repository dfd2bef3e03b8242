-- The tests of a language-map document, in their order. Project rule.
use Rattle.std.specs.Prelude.{◌≡◌, ◌==◌, ℕ, ◌+◌, Bool, true, false, List, [], ◌∷◌, ◌++◌, Option}
use Rattle.std.specs.Prelude.{Some, is_some, unwrap_or}
use Rattle.std.specs.List.{list_any}
use Rattle.std.specs.Str.{bytes_eq, str_to_ascii_lowercase}
use Rattle.cell_core.specs.Label.{IsLabel}
use Rattle.serde_json.specs.Data.{Data}
use Rattle.json_docs.specs.FaultChecks.{Check, check}
use Rattle.json_docs.specs.declared.fault.DocCause.{DocCause}
use Rattle.json_docs.specs.declared.fault.DocCause.TheVariants.{RepeatedTag, Shape}
use Rattle.json_docs.specs.declared.fault.Spot.TheVariants.{Document, Row}
use Rattle.row_docs.specs.Fields.{IsLabelRefusal, id_check, language_check}
use Rattle.map_docs.specs.MembersRows.{Keys, Rows, Strings, message_rows_in}

-- an earlier key is equal without case
abbrev pub is_repeated : List (List ℕ) → List ℕ → Bool
is_repeated before key =
    list_any (λ earlier. bytes_eq (str_to_ascii_lowercase earlier) (str_to_ascii_lowercase key))
    before

-- no string gives no label, else the strings are one
abbrev pub IsLabelOrNone : List (List ℕ) → Type 0
IsLabelOrNone [] = Unit {0}
IsLabelOrNone (t ∷ ts) = IsLabel (t ∷ ts)

-- e says why the strings of row k are no label
abbrev pub IsStringsRefusal : ℕ → List (List ℕ) → DocCause → Type 0
IsStringsRefusal k [] e = ⊥
IsStringsRefusal k (t ∷ ts) e = IsLabelRefusal k (Some (t ∷ ts)) e

-- the strings of row k are a label or none, or are refused
abbrev pub strings_check : ℕ → List (List ℕ) → Check
strings_check k strings = record {
  passes = IsLabelOrNone strings;
  refuses = IsStringsRefusal k strings;
}

-- the tests of a key of row k after the keys before it
abbrev pub key_checks : ℕ → List (List ℕ) → List ℕ → Strings → List Check
key_checks k before key strings =
    language_check k key
    ∷ check (is_repeated before key ≡ false) (RepeatedTag k)
    ∷ check (is_some strings ≡ true) (Shape (Row k))
    ∷ strings_check k (unwrap_or strings [])
    ∷ []

-- the tests of the keys of row k from here on, each after the keys before it
abbrev pub keys_checks : ℕ → List (List ℕ) → Keys → List Check
keys_checks k before [] = []
keys_checks k before (m ∷ ms) = key_checks k before m.0 m.1 ++ keys_checks k (before ++ m.0 ∷ []) ms

-- a name that begins with "@" (64)
abbrev pub is_marked : List ℕ → Bool
is_marked [] = false
is_marked (b ∷ name) = b == 64

-- the tests of a message
abbrev pub message_checks : ℕ → List ℕ → Option Keys → List Check
message_checks k name keys =
    id_check k name
    ∷ check (is_some keys ≡ true) (Shape (Row k))
    ∷ keys_checks k [] (unwrap_or keys [])

-- what a member gives, which is nothing where its name is marked
abbrev pub unless_marked {ℓ} : {X : Type ℓ} → Bool → List X → List X
unless_marked true xs = []
unless_marked false xs = xs

-- a member whose name begins with "@" is no message, and its value is free
abbrev pub member_checks : ℕ → List ℕ × Option Keys → List Check
member_checks k r = unless_marked (is_marked r.0) (message_checks k r.0 r.1)

-- the tests of the rows from the k-th on
abbrev pub members_checks : ℕ → Rows → List Check
members_checks k [] = []
members_checks k (r ∷ rs) = member_checks k r ++ members_checks (k + 1) rs

-- all tests of the document: an object, whose members each pass theirs
abbrev pub langmaps_checks : Data → List Check
langmaps_checks d =
    check (is_some (message_rows_in d) ≡ true) (Shape Document)
    ∷ members_checks 0 (unwrap_or (message_rows_in d) [])
