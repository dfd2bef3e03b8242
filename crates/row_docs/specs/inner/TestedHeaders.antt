-- Why a text is refused before its rows.
use Rattle.std.specs.Prelude.{◌≡◌, ◌⊎◌, ℕ, List, None, Some}
use Rattle.serde_json.specs.Data.{Data}
use Rattle.serde_json.specs.Read.{read}
use Rattle.json_docs.specs.FaultChecks.{FirstFails}
use Rattle.json_docs.specs.declared.fault.DocCause.{DocCause}
use Rattle.json_docs.specs.declared.fault.DocCause.TheVariants.{NotJson}
use Rattle.row_docs.specs.Headers.{header_checks}
use Rattle.row_docs.specs.declared.kind.Kind.{Kind}

-- why the text is refused, which is UTF-8
abbrev pub RefusesText : Kind → List ℕ → DocCause → Type 0
RefusesText kind text e = ((e ≡ NotJson) × (read text ≡ None))
    ⊎ ((d : Data) × (read text ≡ Some d) × FirstFails (header_checks kind d) e)
