-- What was read of a document, and why it is refused before its rows. Project rule.
use Rattle.std.specs.Prelude.{◌≡◌, ℕ, List, []}
use Rattle.serde_json.specs.Data.{Data}
use Rattle.json_docs.specs.ScanningArrays.{TakesRows}
use Rattle.json_docs.specs.FaultChecks.{AllPass, Check, IsRefusal}
use Rattle.json_docs.specs.declared.fault.DocCause.{DocCause}
use Rattle.row_docs.specs.Headers.{IsSubject, header_checks, rows_in, subject_data, version_of}
use Rattle.row_docs.specs.declared.kind.Kind.{Kind}
use Rattle.row_docs.specs.declared.tested_header.TestedHeader.{TestedHeader}

-- the header of a document that passes its tests, with the rows as far as they pass theirs
pub record HasHeader {S : Type 0} (kind : Kind) (checks : List Data → Data → List Check)
    (Holds : S → List Data → Type 0) (d : Data) (tested : TestedHeader) (rows : S) : Type 0 where
  pub passes : AllPass (header_checks kind d)
  pub version : tested.version ≡ version_of d
  pub subject : IsSubject tested.subject (subject_data kind d)
  pub taken : TakesRows checks Holds [] rows tested.refusal (rows_in kind d)

-- why the bytes are refused before the rows are looked at
abbrev pub RefusesHeader : Kind → List ℕ → DocCause → Type 0
RefusesHeader kind = IsRefusal (header_checks kind)
