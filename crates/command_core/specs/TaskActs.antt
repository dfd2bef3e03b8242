-- What each command does (project rules). The answers and refusals of documents are those of the
-- document calls.
use Rattle.std.specs.Prelude.{◌≡◌, ◌⊎◌, ◌++◌, ℕ, Bool, List, [], Option, MatchOption}
use Rattle.clap.specs.Words.{Row, Text}
use Rattle.cata_core.specs.Site.{SiteState}
use Rattle.cell_core.specs.Fault.{RefusesName}
use Rattle.cell_core.specs.SiteName.{IsSiteName}
use Rattle.docs_core.specs.Calls as call
use Rattle.site_docs.specs.Reading.{IsSiteText, ReadsAsSite}
use Rattle.json_docs.specs.declared.fault.DocFault.{DocFault}
use Rattle.docs_core.specs.Replaying.{RefusesReplay, Replays}
use Rattle.site_docs.specs.declared.checks.Checks.{Checks}
use Rattle.front_core.specs.TagPick.{AnswersPick, RefusesPick}
use Rattle.front_core.specs.TagFilter.{IsLangFilter, RefusesTagFilter}
use Rattle.front_core.specs.Ask.{HasQuestion, IsAnswer, AnswersBundle, AnswersFilter, AnswersLookup}
use Rattle.front_core.specs.Ask.{IsFilter, IsLookup, RefusesFilter, RefusesLookup}
use Rattle.front_core.specs.Change.{IsDelete, IsPutOf, RefusesKey, RefusesPutOf}
use Rattle.front_core.specs.Exchange.{ShowsView}
use Rattle.front_core.specs.Reader.{IsReader, RefusesReader}
use Rattle.front_core.specs.Translate.{AnswersMissing, AnswersOutdated, IsMissing, IsOutdated}
use Rattle.front_core.specs.Translate.{RefusesMissing, RefusesOutdated}
use Rattle.front_core.specs.Fault.{IsOf, cell_fault}
use Rattle.front_core.specs.declared.change.Change.{Change}
use Rattle.front_core.specs.declared.answer.Answer.{Answer}
use Rattle.front_core.specs.declared.fault.FrontFault.{FrontFault}
use Rattle.front_core.specs.declared.fault.FrontFault.TheVariants.{NoMemory}
use Rattle.command_core.specs.TaskQuestionWords.{PickAllWords}
use Rattle.command_core.specs.TaskQuestionWords.{PickWords}
use Rattle.command_core.specs.Documents.{AreChangesOf, IsDocument, RefusesChanges, RefusesDocuments}
use Rattle.command_core.specs.Documents.{RefusesOnly}
use Rattle.command_core.specs.TaskEditWords.{EditWords}
use Rattle.command_core.specs.OutputEndings.{EndsRefused, ReportsUsage, Writes, usage_line}
use Rattle.command_core.specs.Explaining.{IsExplanation}
use Rattle.docs_core.specs.Lines.{AreDocuments}
use Rattle.command_core.specs.TaskReading.{AnswersInput, RefusesInput}
use Rattle.command_core.specs.Status.{answer_status, found_status}
use Rattle.command_core.specs.OutputStreams.{IsUnread, IsUnwritten, Reader, Streams}
use Rattle.command_core.specs.TaskWords.{GivesTask, TaskWords}
use Rattle.command_core.specs.TaskWords as task
use Rattle.command_core.specs.TaskReading.{NoWords, RefusesNothing}
use Rattle.command_core.specs.declared.documents.DocumentTask.{DocumentTask}

-- ---- `pick` and `new`

-- the pick line
abbrev pub IsPick : PickWords → List ℕ → ℕ → Type 0
IsPick words text answered =
    (answer : Answer)
    × AnswersPick words.preferences.field words.preferences.default words.tags answer
    × (text ≡ answer.text) × (answered ≡ answer_status answer.outcome)

-- the lines of all tags that fit
abbrev pub IsPickAll : PickAllWords → List ℕ → ℕ → Type 0
IsPickAll words text answered =
    (answer : Answer) × IsLangFilter words.field words.tags answer × (text ≡ answer.text)
    × (answered ≡ answer_status answer.outcome)

-- the document of the empty site of this name
abbrev pub IsNew : Text → List ℕ → ℕ → Type 0
IsNew name text answered =
    IsSiteName name × IsSiteText (record { name = name; cells = [] }) text × (answered ≡ 0)

-- the name is no site's name, or memory ended
abbrev pub RefusesNew : Text → FrontFault → Type 0
RefusesNew name fault =
    IsOf cell_fault (RefusesName name) fault ⊎ (IsSiteName name × (fault ≡ NoMemory))

-- ---- `put` and `delete`

-- the change that the words name: they put these texts, or delete
abbrev pub IsChangeOf : EditWords → Change → Type 0
IsChangeOf words change =
    MatchOption words.texts (IsDelete words.id words.lang change)
    (λ texts. IsPutOf words.id words.lang texts change)

-- the id, the language and then the texts
abbrev pub RefusesChangeOf : EditWords → FrontFault → Type 0
RefusesChangeOf words fault =
    MatchOption words.texts (RefusesKey words.id words.lang fault)
    (λ texts. RefusesPutOf words.id words.lang texts fault)

-- the document of the input's site with the edit of the words made
abbrev pub IsEdit : EditWords → List ℕ → List ℕ → ℕ → Type 0
IsEdit words input text answered =
    (change : Change) × IsChangeOf words change
    × call.IsEdited input words.now (change.id, change.lang) change.label text × (answered ≡ 0)

-- the input is refused, or the edit
abbrev pub RefusesEdit : EditWords → List ℕ → DocFault → Type 0
RefusesEdit words input fault = call.RefusesEditing input words.now fault

-- ---- documents

-- the text that the call on the documents of the input gives
abbrev pub AnswersDocuments : DocumentTask → List ℕ → List ℕ → ℕ → Type 0
AnswersDocuments task input text answered = IsDocument task input text × (answered ≡ 0)

-- the two documents, the one after the other
abbrev pub IsSync : Checks → List ℕ → List ℕ → ℕ → Type 0
IsSync checks input text answered =
    (first second one other : List ℕ) × AreDocuments input first second
    × call.AreSynced checks first second one other × (text ≡ one ++ other) × (answered ≡ 0)

-- the first document is refused, then the second, then what they test, then the join
abbrev pub RefusesSync : Checks → List ℕ → DocFault → Type 0
RefusesSync checks input fault =
    (first second : List ℕ) × AreDocuments input first second
    × call.RefusesSync checks first second fault

-- ---- questions to a site

-- what answers a question to the site of the input
abbrev pub AnswersSite : (SiteState → Answer → Type 0) → List ℕ → List ℕ → ℕ → Type 0
AnswersSite Is input text answered =
    (site : SiteState) × (answer : Answer) × ReadsAsSite input site × Is site answer
    × (text ≡ answer.text) × (answered ≡ answer_status answer.outcome)

-- the question that the words read as is answered over the site of the input
abbrev pub AnswersQuestion : {R Q : Type 0} → (Q → Type 0) → (Q → SiteState → Answer → Type 0)
    → Reader R → List ℕ → ℕ → Type 0
AnswersQuestion Reads Is = AnswersInput (AnswersSite (IsAnswer Reads Is))

-- the words are refused, or the input is no document of a site
abbrev pub RefusesQuestion : {R Q : Type 0} → (Q → Type 0) → (FrontFault → Type 0) → Reader R
    → FrontFault → Type 0
RefusesQuestion Reads Refuses = RefusesInput (HasQuestion Reads) Refuses RefusesOnly

-- ---- `changes`

-- the lines of what changed from the first site of the input to the second
abbrev pub AreChanges : List ℕ → List ℕ → ℕ → Type 0
AreChanges input text answered =
    (found : Bool) × AreChangesOf input text found × (answered ≡ found_status found)

-- ---- `explain`

-- what explains the refusal of this number
abbrev pub IsExplained : ℕ → List ℕ → ℕ → Type 0
IsExplained number text answered = IsExplanation number text × (answered ≡ 0)

-- memory alone may be lacking
abbrev pub RefusesNever : FrontFault → Type 0
RefusesNever fault = fault ≡ NoMemory

-- ---- `replay`

-- the lines of the answers of the script
abbrev pub IsReplay : List ℕ → List ℕ → ℕ → Type 0
IsReplay input text answered = Replays input text × (answered ≡ 0)

-- ---- any command

-- this text with this status answers it; `pick`, `new` and `explain` read nothing
abbrev pub Answers : {R : Type 0} → TaskWords → Reader R → List ℕ → ℕ → Type 0
Answers (task.Pick words) reader text answered = IsUnread reader × IsPick words text answered
Answers (task.PickAll words) reader text answered = IsUnread reader × IsPickAll words text answered
Answers (task.New name) reader text answered = IsUnread reader × IsNew name text answered
Answers (task.Edit words) reader text answered = AnswersInput (IsEdit words) reader text answered
Answers (task.Document task) reader text answered =
    AnswersInput (AnswersDocuments task) reader text answered
Answers (task.View view) reader text answered =
    AnswersQuestion (λ asked. asked ≡ view) ShowsView reader text answered
Answers (task.Missing word) reader text answered =
    AnswersQuestion (IsMissing word) AnswersMissing reader text answered
Answers (task.Outdated words) reader text answered =
    AnswersQuestion (IsOutdated words.lang words.source) AnswersOutdated reader text answered
Answers task.Changes reader text answered = AnswersInput AreChanges reader text answered
Answers (task.Filter words) reader text answered =
    AnswersQuestion (IsFilter words.id words.offers words.field)
    (λ asked site. AnswersFilter site.cells asked) reader text answered
Answers (task.Lookup words) reader text answered =
    AnswersQuestion (IsLookup words.id words.reader.offers words.reader.preferences.field
    words.reader.preferences.default)
    (λ asked site. AnswersLookup site.cells asked) reader text answered
Answers (task.Bundle words) reader text answered =
    AnswersQuestion (IsReader words.offers words.preferences.field words.preferences.default)
    (λ asked site. AnswersBundle site.cells asked) reader text answered
Answers (task.Sync checks) reader text answered =
    AnswersInput (IsSync checks) reader text answered
Answers task.Replay reader text answered = AnswersInput IsReplay reader text answered
Answers (task.Explain number) reader text answered =
    IsUnread reader × IsExplained number text answered

-- why it is refused
abbrev pub Refuses : {R : Type 0} → TaskWords → Reader R → FrontFault → Type 0
Refuses (task.Pick words) reader refused =
    IsUnread reader
    × RefusesPick words.preferences.field words.preferences.default words.tags refused
Refuses (task.PickAll words) reader refused =
    IsUnread reader × RefusesTagFilter words.field words.tags refused
Refuses (task.New name) reader refused = IsUnread reader × RefusesNew name refused
Refuses (task.Edit words) reader refused =
    RefusesInput (HasQuestion (IsChangeOf words)) (RefusesChangeOf words) (RefusesEdit words) reader
    refused
Refuses (task.Document task) reader refused =
    RefusesInput NoWords RefusesNothing (RefusesDocuments task) reader refused
Refuses (task.View view) reader refused =
    RefusesQuestion (λ asked. asked ≡ view) RefusesNothing reader refused
Refuses (task.Missing word) reader refused =
    RefusesQuestion (IsMissing word) (RefusesMissing word) reader refused
Refuses (task.Outdated words) reader refused =
    RefusesQuestion (IsOutdated words.lang words.source) (RefusesOutdated words.lang words.source)
    reader refused
Refuses task.Changes reader refused =
    RefusesInput NoWords RefusesNothing RefusesChanges reader refused
Refuses (task.Filter words) reader refused =
    RefusesQuestion (IsFilter words.id words.offers words.field)
    (RefusesFilter words.id words.offers words.field) reader refused
Refuses (task.Lookup words) reader refused =
    RefusesQuestion (IsLookup words.id words.reader.offers words.reader.preferences.field
    words.reader.preferences.default)
    (RefusesLookup words.id words.reader.offers words.reader.preferences.field
    words.reader.preferences.default) reader refused
Refuses (task.Bundle words) reader refused =
    RefusesQuestion (IsReader words.offers words.preferences.field words.preferences.default)
    (RefusesReader words.offers words.preferences.field words.preferences.default) reader refused
Refuses (task.Sync checks) reader refused =
    RefusesInput NoWords RefusesNothing (RefusesSync checks) reader refused
Refuses task.Replay reader refused =
    RefusesInput NoWords RefusesNothing RefusesReplay reader refused
Refuses (task.Explain number) reader refused = IsUnread reader × RefusesNever refused

-- it is answered and the answer written, or its refusal is reported, and nothing is written
abbrev pub Treats : {R W F : Type 0} → TaskWords → Streams R W F → ℕ → Type 0
Treats asked run status =
    ((text : List ℕ) × (answered : ℕ) × Answers asked run.reader text answered
    × Writes text answered run.writer run.faults status)
    ⊎ ((refused : FrontFault) × Refuses asked run.reader refused
    × EndsRefused refused run.writer run.faults status)

-- a usage fault, which was reported: nothing was read or written
abbrev pub IsMisused : {R W F : Type 0} → Streams R W F → ℕ → Type 0
IsMisused run status =
    IsUnread run.reader × IsUnwritten run.writer × ReportsUsage usage_line run.faults status

-- the task of the matched command is done
abbrev pub ActsBy : {R W F : Type 0} → Option (Text × List Row) → Streams R W F → ℕ → Type 0
ActsBy met run status =
    (task : Option TaskWords) × GivesTask met task
    × MatchOption task (IsMisused run status) (λ asked. Treats asked run status)
