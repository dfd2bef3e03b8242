-- Documents of summaries with or without labels: their tests in order, and what they read as.
-- Project rule.
use Rattle.std.specs.Prelude.{◌≡◌, ◌==◌, ◌&&◌, ◌||◌, ℕ, Bool, true, false, List, [], ◌∷◌, codes}
use Rattle.std.specs.Prelude.{Option, None, Some, if◌then◌else◌, is_some, length, map, nat_le}
use Rattle.std.specs.Prelude.{option_and_then}
use Rattle.std.specs.List.{list_all}
use Rattle.std.specs.Ordering.{match_ordering, nat_cmp}
use Rattle.std.specs.Cmp.Lexicographic.{slice_cmp}
use Rattle.serde_json.specs.Data.{Data, Members, array, boolean, member, no_members, null, number}
use Rattle.serde_json.specs.Data.{object, string}
use Rattle.serde_json.specs.Find.{as_str, get}
use Rattle.json_docs.specs.FaultChecks.{Check, IsRefusal, check}
use Rattle.json_docs.specs.Parts.{items_in}
use Rattle.json_docs.specs.declared.fault.DocCause.{DocCause}
use Rattle.json_docs.specs.declared.fault.DocCause.TheVariants.{Shape}
use Rattle.json_docs.specs.declared.fault.Spot.TheVariants as spot
use Rattle.row_docs.specs.Headers.{rows_in, version_in}
use Rattle.row_docs.specs.Reading.{Reads}
use Rattle.row_docs.specs.declared.kind.Kind.TheVariants.{Summary}
use Rattle.site_docs.specs.SiteDocuments.{IsSummaryDocument, summary_checks}
use Rattle.summary_docs.specs.Shown.{ShownState}

-- ---- digests

-- a hexadecimal digit in lower case, 48 to 57 or 97 to 102
abbrev pub is_hex_digit : ℕ → Bool
is_hex_digit c = (nat_le 48 c && nat_le c 57) || (nat_le 97 c && nat_le c 102)

-- 16 such digits
abbrev pub is_digest : List ℕ → Bool
is_digest text = (length text == 16) && list_all is_hex_digit text

-- ---- documents

-- the members but that of this name
abbrev pub other_members : List ℕ → Members → Members
other_members name no_members = no_members
other_members name (member k d ms) = match_ordering (slice_cmp nat_cmp name k)
    (member k d (other_members name ms)) ms (member k d (other_members name ms))

-- the object without its member of this name
abbrev pub without : List ℕ → Data → Data
without name null = null
without name (boolean b) = boolean b
without name (number n) = number n
without name (string s) = string s
without name (array ds) = array ds
without name (object ms) = object (other_members name ms)

-- the version is 2
abbrev pub is_two : Option ℕ → Bool
is_two None = false
is_two (Some n) = n == 2

-- the document is of version 2 and has the member for labels
abbrev pub shows_labels : Data → Bool
shows_labels d = is_two (version_in d) && is_some (get (codes "labels") d)

-- the digest that a value is, where it is one
abbrev pub digest_in : Data → Option (List ℕ)
digest_in d = option_and_then (λ text. if is_digest text then Some text else None) (as_str d)

-- the member for labels has these digests, one for each row
pub record HasDigests (d : Data) (digests : List (List ℕ)) : Type 0 where
  pub items : List Data
  pub there : option_and_then items_in (get (codes "labels") d) ≡ Some items
  pub are : map digest_in items ≡ map Some digests
  pub each : length digests ≡ length (rows_in Summary d)

-- all tests of a summary's document: where it shows labels, those, and the tests of the document
-- without them
abbrev pub checks_by : Bool → Data → List Check
checks_by false d = summary_checks d
checks_by true d =
    check ((digests : List (List ℕ)) × HasDigests d digests) (Shape spot.Document)
    ∷ summary_checks (without (codes "labels") d)

-- all tests of a summary's document, which may show labels
abbrev pub shown_checks : Data → List Check
shown_checks d = checks_by (shows_labels d) d

-- what a summary's document is, where it shows labels or does not
abbrev pub IsShownBy : Bool → Data → ShownState → Type 0
IsShownBy false d shown = IsSummaryDocument d shown.summary × (shown.digests ≡ [])
IsShownBy true d shown = IsSummaryDocument (without (codes "labels") d) shown.summary
    × HasDigests d shown.digests

-- the document is of this summary, with the digests that it shows
abbrev pub IsShownDocument : Data → ShownState → Type 0
IsShownDocument d = IsShownBy (shows_labels d) d

-- the bytes pass all tests of a summary's document, which may show labels, and are this one's
abbrev pub ReadsAsShown : List ℕ → ShownState → Type 0
ReadsAsShown = Reads shown_checks IsShownDocument

-- the bytes are refused as such a document, by the first test that fails
abbrev pub RefusesShown : List ℕ → DocCause → Type 0
RefusesShown = IsRefusal shown_checks
