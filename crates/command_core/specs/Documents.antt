-- What the commands of documents alone answer, and why they refuse them: as the document calls do
-- (project rules).
use Rattle.std.specs.Prelude.{ℕ, Bool, List}
use Rattle.query_docs.specs.Changes.{IsChanged, RefusesChanged}
use Rattle.docs_core.specs.Calls as call
use Rattle.docs_core.specs.Importing as exchange
use Rattle.row_docs.specs.Reading.{IsOfDocument}
use Rattle.site_docs.specs.Reading.{RefusesSite}
use Rattle.docs_core.specs.Merging.{IsMerged, RefusesMerge}
use Rattle.docs_core.specs.Updating as updated
use Rattle.json_docs.specs.declared.fault.DocFault.{DocFault}
use Rattle.docs_core.specs.Lines.{AreDocuments, AreThreeDocuments}
use Rattle.command_core.specs.declared.documents.DocumentTask.{DocumentTask}
use Rattle.command_core.specs.declared.documents.DocumentTask.TheVariants.{Delta, Import, Merge}
use Rattle.command_core.specs.declared.documents.DocumentTask.TheVariants.{Take, Update}

-- the document that answers the documents of an input
abbrev pub IsDocument : DocumentTask → List ℕ → List ℕ → Type 0
IsDocument (Import now) input text =
    (site maps : List ℕ) × AreDocuments input site maps × exchange.IsImported site now maps text
IsDocument (Update now) input text =
    (site old new : List ℕ) × AreThreeDocuments input site old new
    × updated.IsUpdated site now old new text
IsDocument Delta input text =
    (site summary : List ℕ) × AreDocuments input site summary × call.IsDeltaFor site summary text
IsDocument (Take checks) input text =
    (site delta : List ℕ) × AreDocuments input site delta × call.IsTaken checks site delta text
IsDocument (Merge checks) input text = IsMerged checks input text

-- how the cells of the two sites of an input differ, and whether they do
abbrev pub AreChangesOf : List ℕ → List ℕ → Bool → Type 0
AreChangesOf input text found =
    (before after : List ℕ) × AreDocuments input before after × IsChanged before after text found

-- why the two documents are no sites: the first, then the second
abbrev pub RefusesChanges : List ℕ → DocFault → Type 0
RefusesChanges input fault =
    (before after : List ℕ) × AreDocuments input before after × RefusesChanged before after fault

-- why the only document is no site
abbrev pub RefusesOnly : List ℕ → DocFault → Type 0
RefusesOnly input = IsOfDocument 1 (RefusesSite input)

-- why the documents are refused
abbrev pub RefusesDocuments : DocumentTask → List ℕ → DocFault → Type 0
RefusesDocuments (Import now) input fault =
    (site maps : List ℕ) × AreDocuments input site maps × exchange.RefusesImport site now maps fault
RefusesDocuments (Update now) input fault =
    (site old new : List ℕ) × AreThreeDocuments input site old new
    × updated.RefusesUpdate site now old new fault
RefusesDocuments Delta input fault =
    (site summary : List ℕ) × AreDocuments input site summary
    × call.RefusesDeltaFor site summary fault
RefusesDocuments (Take checks) input fault =
    (site delta : List ℕ) × AreDocuments input site delta
    × call.RefusesTaking checks site delta fault
RefusesDocuments (Merge checks) input fault = RefusesMerge checks input fault
