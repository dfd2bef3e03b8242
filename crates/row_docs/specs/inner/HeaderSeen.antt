-- What was read of a document's members so far.
use Rattle.std.specs.Prelude.{◌≡◌, ℕ, List, [], Bool, true, false, codes, Option, None, Some}
use Rattle.std.specs.Prelude.{is_some, option_and_then}
use Rattle.std.specs.Str.{bytes_eq}
use Rattle.serde_json.specs.Data.{Data, Members}
use Rattle.serde_json.specs.Find.{as_str, get_member}
use Rattle.json_docs.specs.ScanningArrays.{TakesRows}
use Rattle.json_docs.specs.FaultChecks.{Check}
use Rattle.json_docs.specs.Parts.{items_in, u64_in}
use Rattle.json_docs.specs.declared.fault.DocCause.{DocCause}
use Rattle.row_docs.specs.Headers.{IsSubject}
use Rattle.row_docs.specs.Kinds.{kind_text, member_of, rows_of, subject_of}
use Rattle.row_docs.specs.declared.header.Header.{Header}
use Rattle.row_docs.specs.declared.header.Subject.{Subject}
use Rattle.row_docs.specs.declared.kind.Kind.{Kind}
use Rattle.row_docs.specs.declared.kind.Member.TheVariants.{Other}

-- whether the text found is this one; where none was found it is not
abbrev pub is_text : List ℕ → Option (List ℕ) → Bool
is_text text None = false
is_text text (Some found) = bytes_eq found text

-- no member, or what it is
abbrev pub ShowsSubject : Option Subject → Option Data → Type 0
ShowsSubject None m = m ≡ None
ShowsSubject (Some subject) m = (d : Data) × (m ≡ Some d) × IsSubject subject d

-- no array, or its rows as far as they pass
abbrev pub ShowsRows : {S : Type 0} → (List Data → Data → List Check) → (S → List Data → Type 0)
    → Option (Option DocCause) → S → Option (List Data) → Type 0
ShowsRows checks Holds None rows ds = ds ≡ None
ShowsRows checks Holds (Some refusal) rows ds = (found : List Data) × (ds ≡ Some found)
    × TakesRows checks Holds [] rows refusal found

-- whether there is a member of another name
pub record ShowsOthers (kind : Kind) (has_other : Bool) (ms : Members) : Type 0 where
  pub there : has_other ≡ true → (name : List ℕ) × (member_of kind name ≡ Other)
      × (is_some (get_member name ms) ≡ true)
  pub noted : (name : List ℕ) → member_of kind name ≡ Other → is_some (get_member name ms) ≡ true
      → has_other ≡ true

-- what was read is of these members
pub record Shows {S : Type 0} (kind : Kind) (checks : List Data → Data → List Check)
    (Holds : S → List Data → Type 0) (header : Header) (rows : S) (ms : Members) : Type 0 where
  pub is_kind : header.is_kind ≡ is_text (kind_text kind)
      (option_and_then as_str (get_member (codes "kind") ms))
  pub version : header.version ≡ option_and_then u64_in (get_member (codes "version") ms)
  pub subject : ShowsSubject header.subject (get_member (subject_of kind) ms)
  pub rows_part : ShowsRows checks Holds header.rows rows
      (option_and_then items_in (get_member (rows_of kind) ms))
  pub others : ShowsOthers kind header.has_other ms
