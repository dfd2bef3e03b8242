-- The tests of a document before its rows, in their order. Project rule.
use Rattle.std.specs.Prelude.{◌≡◌, ◌⊎◌, ◌==◌, ℕ, List, [], ◌∷◌, true, codes, Option, None, Some}
use Rattle.std.specs.Prelude.{is_some, if◌then◌else◌, unwrap_or, option_and_then}
use Rattle.cell_core.specs.SiteName.{IsSiteName}
use Rattle.serde_json.specs.Data.{Data, null}
use Rattle.serde_json.specs.Find.{as_str, get}
use Rattle.json_docs.specs.FaultChecks.{Check, check}
use Rattle.json_docs.specs.Parts.{items_in, u64_in}
use Rattle.json_docs.specs.declared.fault.DocCause.TheVariants.{Shape, VersionUnknown}
use Rattle.row_docs.specs.Kinds.{is_among, kind_text, names_of, rows_of, subject_of}
use Rattle.row_docs.specs.declared.header.Subject.{Subject}
use Rattle.row_docs.specs.declared.header.Subject.TheVariants.{Name, NoName, Number}
use Rattle.row_docs.specs.declared.header.Subject.TheVariants.{Other}
use Rattle.row_docs.specs.declared.kind.Kind.{Kind}
use Rattle.row_docs.specs.declared.version.Version.{Version}
use Rattle.row_docs.specs.declared.version.Version.TheVariants.{One, Two}
use Rattle.json_docs.specs.declared.fault.Spot.TheVariants as spot

-- ---- parts of a document

-- the kind that a document says, where it is a text
abbrev pub kind_in : Data → Option (List ℕ)
kind_in d = option_and_then as_str (get (codes "kind") d)

-- the version that a document says, where it is an unsigned whole number
abbrev pub version_in : Data → Option ℕ
version_in d = option_and_then u64_in (get (codes "version") d)

-- what is not of version 1 is read as of version 2
abbrev pub version_by : Option ℕ → Version
version_by None = Two
version_by (Some n) = if n == 1 then One else Two

-- the version by which a document is read
abbrev pub version_of : Data → Version
version_of d = version_by (version_in d)

-- the member that names a site, or says how many there are
abbrev pub subject_data : Kind → Data → Data
subject_data kind d = unwrap_or (get (subject_of kind) d) null

-- the rows of a document; none where they are in no array
abbrev pub rows_in : Kind → Data → List Data
rows_in kind d = unwrap_or (option_and_then items_in (get (rows_of kind) d)) []

-- what that member is, as far as a document needs it
abbrev pub IsSubject : Subject → Data → Type 0
IsSubject (Name name) d = (as_str d ≡ Some name) × IsSiteName name
IsSubject NoName d = (text : List ℕ) × (as_str d ≡ Some text) × (¬ (IsSiteName text))
IsSubject (Number n) d = u64_in d ≡ Some n
IsSubject Other d = (as_str d ≡ None) × (u64_in d ≡ None)

-- ---- the tests

-- an object with the right kind, and a version that is an unsigned whole number
abbrev pub Begins : Kind → Data → Type 0
Begins kind d = (kind_in d ≡ Some (kind_text kind)) × (is_some (version_in d) ≡ true)

-- the version is 1 or 2
abbrev pub IsKnownVersion : Data → Type 0
IsKnownVersion d = (version_in d ≡ Some 1) ⊎ (version_in d ≡ Some 2)

-- a member of each of these names, and no other
abbrev pub HasJust : List (List ℕ) → Data → Type 0
HasJust names d = (name : List ℕ) → is_some (get name d) ≡ is_among name names

-- exactly its members, and the rows in an array
abbrev pub HasMembers : Kind → Data → Type 0
HasMembers kind d = HasJust (names_of kind) d
    × (is_some (option_and_then items_in (get (rows_of kind) d)) ≡ true)

-- the tests before the rows: how it begins, a known version, its members
abbrev pub header_checks : Kind → Data → List Check
header_checks kind d =
    check (Begins kind d) (Shape spot.Document)
    ∷ check (IsKnownVersion d) VersionUnknown
    ∷ check (HasMembers kind d) (Shape spot.Document)
    ∷ []
