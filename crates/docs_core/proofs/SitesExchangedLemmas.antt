-- What documents hold after a delta or a sync.
use Rattle.std.proofs.Common.{◌≡◌, ◌∙◌, ℕ, List, [], ap, ap₂}
use Rattle.cata_core.specs.Delta.{HasAll, Stamps, delta_of, summary_of}
use Rattle.catalogue.specs.Entries.{Agree, Entries, joined}
use Rattle.cata_core.specs.Site.{SiteState}
use Rattle.cata_core.specs.declared.delta.Delta.{Delta}
use Rattle.cata_core.proofs.DeltaLemmas.{nothing_lost}
use Rattle.cata_core.proofs.SummaryLemmas.{has_own}
use Rattle.row_docs.specs.Entries.{cells_values}
use Rattle.site_docs.specs.Reading.{IsSiteText, ReadsAsDelta, ReadsAsSite}
use Rattle.row_docs.specs.WritingTexts.{text}
use Rattle.site_docs.specs.DocumentsValues.{site_value}
use Rattle.docs_core.specs.Calls.{AreSynced, IsDeltaFor, IsSummarised, IsTaken}
use Rattle.site_docs.specs.declared.checks.Checks.{Checks}
use Rattle.docs_core.proofs.CallsLemmas.{site_written}
use Rattle.docs_core.proofs.CallRefusals.{site_ascends}
use Rattle.site_docs.proofs.ReadingOneDocument.{one_delta, one_site}
use Rattle.summary_docs.specs.Reading.{ReadsAsShown}
use Rattle.summary_docs.specs.Shown.{ShownState, delta_for, shown_of}
use Rattle.summary_docs.specs.Writing.{IsSummaryBy}
use Rattle.summary_docs.specs.declared.summaries.Shows.{Shows}
use Rattle.summary_docs.specs.declared.summaries.Shows.TheVariants as form
use Rattle.summary_docs.proofs.ReadingLemmas.{one_shown, plain_reads}
use Rattle.summary_docs.proofs.ShownDeltaLemmas.{shown_suffices}

-- a delta made against what the site has leaves it with all cells of the sender
pub taken_suffices : (checks : Checks) (a b text : List ℕ) (site : SiteState) (sender : Entries)
    (told : Stamps) → ReadsAsSite a site
    → ReadsAsDelta b (record { addressee = site.name; cells = delta_of sender told })
    → Agree site.cells sender → HasAll site.cells told → IsTaken checks a b text
    → IsSiteText (record { name = site.name; cells = joined site.cells sender }) text
taken_suffices checks a b text site sender told reads_site reads_delta agree has
    (own, delta, own_reads, delta_reads, mine, none, agreed, is) =
    let told_delta : Delta = record { addressee = site.name; cells = delta_of sender told } in
    let left : SiteState = record { name = own.name; cells = joined own.cells delta.cells } in
    let whole : SiteState = record { name = site.name; cells = joined site.cells sender } in
    let same : left ≡ whole =
    ap₂ (λ (s : SiteState) (d : Delta). let r : SiteState =
    record { name = s.name; cells = joined s.cells d.cells } in r)
    (one_site a own site own_reads reads_site)
    (one_delta b delta told_delta delta_reads.0 reads_delta)
    ∙ ap (λ (cells : Entries). let r : SiteState = record { name = site.name; cells = cells } in r)
    (nothing_lost site.cells sender told agree has) in
    site_written text left whole same is.0 is.1

-- what a site tells of itself, with labels or without
abbrev pub told_by : Shows → SiteState → ShownState
told_by form.Stamps site = record {
  summary = record { owner = site.name; stamps = summary_of site.cells };
  digests = [];
}
told_by form.Labels site = shown_of site.name site.cells

-- the text of its summary reads as that
pub told_reads : (shows : Shows) (site : SiteState) (text : List ℕ) → IsSummaryBy shows site text
    → ReadsAsShown text (told_by shows site)
told_reads form.Stamps site text is =
    plain_reads text (record { owner = site.name; stamps = summary_of site.cells }) is.1
told_reads form.Labels site text is = is.1

-- the site has all of it
told_has : (shows : Shows) (site : SiteState)
    → (let told = told_by shows site in HasAll site.cells told.summary.stamps)
told_has form.Stamps site = has_own site.cells
told_has form.Labels site = has_own site.cells

-- the summary of the one, the delta that the other makes for it, and its taking
pub exchanged : (shows : Shows) (checks : Checks) (a b told delta taken : List ℕ)
    (site other : SiteState) → ReadsAsSite a site → ReadsAsSite b other
    → Agree site.cells other.cells → IsSummarised shows a told → IsDeltaFor b told delta
    → IsTaken checks a delta taken
    → IsSiteText (record { name = site.name; cells = joined site.cells other.cells }) taken
exchanged shows checks a b told delta taken site other reads_site reads_other agree
    (s, s_reads, summarised) (o, shown, o_reads, shown_reads, news)
    (own, brought, own_reads, delta_reads, mine, none, agreed, is) =
    let summary : shown ≡ told_by shows site =
    one_shown told shown (told_by shows s) shown_reads (told_reads shows s told summarised)
    ∙ ap (told_by shows) (one_site a s site s_reads reads_site) in
    let sender : o ≡ other = one_site b o other o_reads reads_other in
    let cells : brought.cells ≡ delta_for other.cells (told_by shows site) =
    ap (λ (d : Delta). d.cells) (one_delta delta brought _ delta_reads.0 news.1)
    ∙ ap₂ (λ (x : SiteState) (y : ShownState). delta_for x.cells y) sender summary in
    let left : SiteState = record { name = own.name; cells = joined own.cells brought.cells } in
    let whole : SiteState = record { name = site.name; cells = joined site.cells other.cells } in
    let same : left ≡ whole =
    ap₂ (λ (x : SiteState) (es : Entries). let r : SiteState =
    record { name = x.name; cells = joined x.cells es } in r)
    (one_site a own site own_reads reads_site) cells
    ∙ ap (λ (es : Entries). let r : SiteState = record { name = site.name; cells = es } in r)
    (shown_suffices site.cells other.cells (told_by shows site) (site_ascends a site reads_site)
    (site_ascends b other reads_other) (told_has shows site)) in
    site_written taken left whole same is.0 is.1

-- both synced documents have the cells of both sites
pub synced_cells : (checks : Checks) (a b x y : List ℕ) (first second : SiteState)
    → ReadsAsSite a first → ReadsAsSite b second → AreSynced checks a b x y
    → let cells = cells_values (joined first.cells second.cells) in
    (x ≡ text (site_value first.name cells)) × (y ≡ text (site_value second.name cells))
synced_cells checks a b x y first second reads_first reads_second
    (s, t, s_reads, t_reads, in_time, others_in_time, none, agree, is_first, is_second) =
    let one = one_site a s first s_reads reads_first in
    let two = one_site b t second t_reads reads_second in (
      is_first.0
          ∙ ap₂ (λ (s t : SiteState). text
          (site_value s.name (cells_values (joined s.cells t.cells)))) one two,
      is_second.0
          ∙ ap₂ (λ (s t : SiteState). text
          (site_value t.name (cells_values (joined s.cells t.cells)))) one two,
    )
