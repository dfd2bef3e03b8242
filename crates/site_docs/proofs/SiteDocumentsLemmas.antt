-- A document that is refused at its header.
use Rattle.std.proofs.Common.{◌++◌, ℕ, List, [], inl, inr}
use Rattle.serde_json.specs.Data.{Data}
use Rattle.json_docs.specs.FaultChecks.{Check, IsRefusal, OrMemory, rows_checks}
use Rattle.json_docs.specs.declared.fault.DocCause.{DocCause}
use Rattle.json_docs.specs.declared.fault.DocCause.TheVariants.{NoMemory}
use Rattle.row_docs.specs.Headers.{header_checks, rows_in, subject_data, version_of}
use Rattle.site_docs.specs.SiteDocuments.{document_checks, subject_checks}
use Rattle.row_docs.specs.TestedHeaders.{RefusesHeader}
use Rattle.row_docs.specs.declared.kind.Kind.{Kind}
use Rattle.row_docs.specs.declared.version.Version.{Version}
use Rattle.json_docs.proofs.FaultChecksLemmas.{FirstFails-front}

-- what refuses the header refuses the document
pub refused_before : (kind : Kind) (checks : Version → List Data → Data → List Check)
    (bytes : List ℕ) (e : DocCause)
    → OrMemory NoMemory (RefusesHeader kind bytes) e
    → OrMemory NoMemory (IsRefusal (document_checks kind checks) bytes) e
refused_before kind checks bytes e why = elim why [
  | inl memory ↦ inl memory
  | inr before ↦ elim before [
    | inl text ↦ inr (inl text)
    | inr header ↦ inr (inr (
      header.0,
      header.1,
      FirstFails-front (header_checks kind header.0)
          (subject_checks (version_of header.0) (subject_data kind header.0) ++ rows_checks
          (checks (version_of header.0)) [] (rows_in kind header.0)) e header.2,
    ))
  ]
]
