-- A header, as the tests of a document see it.
use Rattle.std.specs.Prelude.{◌≡◌, ◌⊎◌, true, false, Some, is_some}
use Rattle.json_docs.specs.declared.fault.DocCause.{DocCause}
use Rattle.json_docs.specs.declared.fault.DocCause.TheVariants.{Shape, VersionUnknown}
use Rattle.row_docs.specs.Headers.{version_by}
use Rattle.row_docs.specs.declared.header.Header.{Header}
use Rattle.row_docs.specs.declared.tested_header.TestedHeader.{TestedHeader}
use Rattle.json_docs.specs.declared.fault.Spot.TheVariants as spot

-- the kind is right, and the version is an unsigned whole number
abbrev pub Starts : Header → Type 0
Starts header = (header.is_kind ≡ true) × (is_some header.version ≡ true)

-- the version is 1 or 2
abbrev pub HasKnownVersion : Header → Type 0
HasKnownVersion header = (header.version ≡ Some 1) ⊎ (header.version ≡ Some 2)

-- the member that names the site is there, the rows are there in an array, and nothing else is
abbrev pub IsWhole : Header → Type 0
IsWhole header = (header.has_other ≡ false) × (is_some header.subject ≡ true)
    × (is_some header.rows ≡ true)

-- the header passes, and is this one when tested
pub record PassesHeader (header : Header) (tested : TestedHeader) : Type 0 where
  pub starts : Starts header
  pub known : HasKnownVersion header
  pub whole : IsWhole header
  pub version : tested.version ≡ version_by header.version
  pub subject : header.subject ≡ Some tested.subject
  pub rows : header.rows ≡ Some tested.refusal

-- the first test that the header does not pass
abbrev pub FailsHeader : Header → DocCause → Type 0
FailsHeader header e =
    ((¬ (Starts header)) × (e ≡ Shape spot.Document))
    ⊎ (Starts header × (¬ (HasKnownVersion header)) × (e ≡ VersionUnknown))
    ⊎ (Starts header × HasKnownVersion header × (¬ (IsWhole header)) × (e ≡ Shape spot.Document))
