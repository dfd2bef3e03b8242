-- The texts of a whole site, and the delta that another site lacks (project rules).
use Rattle.std.specs.Prelude.{◌≡◌}
use Rattle.cata_core.specs.Site.{SiteState}
use Rattle.json_docs.specs.FaultChecks.{OrMemory}
use Rattle.map_docs.specs.WritingTexts.{IsTextOf}
use Rattle.row_docs.specs.Reading.{IsOfDocument, no_memory}
use Rattle.site_docs.specs.Reading.{IsDeltaText, IsSiteText}
use Rattle.summary_docs.specs.Reading.{ReadsAsShown, RefusesShown}
use Rattle.summary_docs.specs.Shown.{ShownState, delta_for}
use Rattle.summary_docs.specs.Writing.{IsSummaryBy}
use Rattle.query_docs.specs.Exporting.{live_labels}
use Rattle.query_docs.specs.Labels.{AnswersLabels}
use Rattle.query_docs.specs.Status.{status_line}
use Rattle.front_core.specs.Ask.{is_found}
use Rattle.front_core.specs.Fault.{IsOf, document_fault}
use Rattle.front_core.specs.Preferences.{Text}
use Rattle.front_core.specs.declared.answer.Answer.{Answer}
use Rattle.front_core.specs.declared.answer.Outcome.TheVariants.{Found}
use Rattle.front_core.specs.declared.exchange.View.{View}
use Rattle.front_core.specs.declared.exchange.View.TheVariants as view
use Rattle.front_core.specs.declared.fault.FrontFault.{FrontFault}

-- the text is such a one, and counts as found
abbrev IsFoundText : (Text → Type 0) → Answer → Type 0
IsFoundText Is answer = Is answer.text × (answer.outcome ≡ Found)

-- the text of the site; that of its labels has found something if there are any
abbrev pub ShowsView : View → SiteState → Answer → Type 0
ShowsView view.Document site = IsFoundText (IsSiteText site)
ShowsView (view.Summary shows) site = IsFoundText (IsSummaryBy shows site)
ShowsView view.Status site = IsFoundText (λ text. text ≡ status_line site)
ShowsView view.Export site = IsFoundText (IsTextOf (live_labels site.cells))
ShowsView view.Labels site =
    λ answer. AnswersLabels site.cells answer.text (is_found answer.outcome)

-- the cells that the summary lacks, for its owner
abbrev pub IsDelta : SiteState → Text → Answer → Type 0
IsDelta site bytes answer =
    (shown : ShownState) × ReadsAsShown bytes shown
    × IsDeltaText (record {
      addressee = shown.summary.owner;
      cells = delta_for site.cells shown;
    }) answer.text × (answer.outcome ≡ Found)

-- the bytes are no document of a summary, or memory ran out
abbrev pub RefusesDelta : Text → FrontFault → Type 0
RefusesDelta bytes = IsOf document_fault (OrMemory no_memory
    (IsOfDocument 1 (RefusesShown bytes)))
