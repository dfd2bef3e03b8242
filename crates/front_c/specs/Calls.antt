-- What each call makes of its handles, its buffer, its record and its status (project rules).
use Rattle.std.specs.Prelude.{◌≡◌, ◌≢◌, ◌⊎◌, ℕ, ℤ, None, Option, Some, MatchOption, option_map}
use Rattle.cata_core.specs.Site.{SiteState}
use Rattle.site_docs.specs.Reading.{ReadsAsSite}
use Rattle.site_docs.specs.declared.checks.Checks.{Checks}
use Rattle.list_core.specs.declared.fault.NegoFault.{NegoFault}
use Rattle.front_core.specs.Ask.{IsAnswer, IsNoMemory, RefusesAnswer, RefusesDocument}
use Rattle.front_core.specs.Ask.{AnswersBundle, AnswersFilter, AnswersLookup, IsFilter, IsLookup}
use Rattle.front_core.specs.Ask.{IsLookupText, RefusesFilter, RefusesLookup}
use Rattle.front_core.specs.OpenSite.{Edits, IsDeleted, IsMerged, IsPutInto, IsTaken, LeavesMerge}
use Rattle.front_core.specs.OpenSite.{LeavesTake, OrNoMemory, RefusesDelete, RefusesMerge}
use Rattle.front_core.specs.OpenSite.{RefusesPutInto, RefusesTake, IsNewSite, RefusesNewSite}
use Rattle.front_core.specs.OpenSite.{AreUpdated, IsImported, RefusesImport, RefusesUpdates}
use Rattle.front_core.specs.Exchange.{IsDelta, RefusesDelta, ShowsView}
use Rattle.front_core.specs.Fault.{field_fault}
use Rattle.front_core.specs.Preferences.{FieldText}
use Rattle.front_core.specs.Reader.{IsReader, RefusesReader}
use Rattle.docs_core.specs.Lines.{lines_of}
use Rattle.front_core.specs.TagPick.{IsPickedOffered, RefusesPickOffered}
use Rattle.front_core.specs.Refusal.{refusal_of}
use Rattle.front_core.specs.TagFilter.{IsOfferedFilter, RefusesOfferedFilter}
use Rattle.front_core.specs.Translate.{AnswersMissing, AnswersOutdated, AreChangeLines, IsMissing}
use Rattle.text_docs.specs.Message.{IsCompactSite}
use Rattle.front_core.specs.Translate.{IsOutdated, RefusesMissing, RefusesOutdated}
use Rattle.front_core.specs.declared.answer.Answer.{Answer}
use Rattle.front_core.specs.declared.exchange.View.{View}
use Rattle.front_core.specs.declared.exchange.View.TheVariants.{Summary}
use Rattle.front_core.specs.declared.fault.FrontFault.{FrontFault}
use Rattle.front_core.specs.declared.fault.FrontFault.TheVariants.{NoMemory}
use Rattle.front_c.specs.Question.{checks_of, default_of, field_of, lookup_field_of, shows_of}
use Rattle.front_c.specs.Reporting.{Ends, Reports, ReportsAnswer, ReportsDone, ReportsEither}
use Rattle.front_c.specs.Reporting.{ReportsFault, ReportsLabelText, ReportsNothing, ReportsPicked}
use Rattle.front_c.specs.Reporting.{ReportsRead, ReportsText, ReportsUsage, Text, answered}
use Rattle.front_c.specs.Rules.{AreRules, RefusesRules, offered_by}
use Rattle.front_c.specs.Status.{found, out_of_memory, usage}
use Rattle.front_c.specs.declared.rules.Rules.{Rules}

-- ---- tags

-- what a call with a field makes of it; unknown flags are reported as usage
abbrev pub ReportsField : Option FieldText → (FieldText → Ends) → Ends
ReportsField field As old new told status =
    MatchOption field (ReportsUsage old new told status) (λ read. As read old new told status)

-- the tag that is picked
abbrev pub ReportsPick : ℕ → Rules → Text → Text → Text → Ends
ReportsPick flags rules field tags default =
    ReportsField (lookup_field_of flags rules.fallbacks.now field)
    (λ read. ReportsEither
    (IsPickedOffered (offered_by rules) read (default_of default) (lines_of tags))
    (RefusesPickOffered (offered_by rules) read (default_of default) (lines_of tags)) ReportsPicked)

-- the lines of the tags that the field takes
abbrev pub ReportsTagFilter : ℕ → Rules → Text → Text → Ends
ReportsTagFilter flags rules field tags =
    ReportsField (field_of flags field)
    (λ read. ReportsEither (IsOfferedFilter (offered_by rules) read (lines_of tags))
    (RefusesOfferedFilter (offered_by rules) read (lines_of tags)) ReportsAnswer)

-- ---- questions to a site

-- what a call makes of the site of a handle; usage is reported where the handle is not open
abbrev pub ReportsOpen : Option SiteState → (SiteState → Ends) → Ends
ReportsOpen site As old new told status =
    MatchOption site (ReportsUsage old new told status) (λ s. As s old new told status)

-- what is answered of a site, where the handle is open
abbrev pub ReportsAsked : Option SiteState → (SiteState → Answer → Type 0)
    → (FrontFault → Type 0) → Ends
ReportsAsked site Is Refuses =
    ReportsOpen site (λ s. ReportsEither (Is s) Refuses ReportsAnswer)

-- the answer to the question that the arguments read as
abbrev pub ReportsQuestion : {Q : Type 0} → Option SiteState → (Q → Type 0)
    → (FrontFault → Type 0) → (Q → SiteState → Answer → Type 0) → Ends
ReportsQuestion site Reads Refuses Answers =
    ReportsAsked site (IsAnswer Reads Answers) (RefusesAnswer Reads Refuses)

-- the line of a lookup in the handle's site
abbrev pub ReportsLookup : Option SiteState → Rules → ℕ → Text → Text → Text → Ends
ReportsLookup site rules flags id field default =
    let offers = offered_by rules in
    ReportsField (lookup_field_of flags rules.fallbacks.now field)
    (λ read. ReportsQuestion site (IsLookup id offers read (default_of default))
    (RefusesLookup id offers read (default_of default)) (λ asked s. AnswersLookup s.cells asked))

-- the text at a place of the label that a lookup in the handle's site finds
abbrev pub ReportsLookupText : Option SiteState → Rules → ℕ → Text → Text → Text → ℕ → Ends
ReportsLookupText site rules flags id field default place =
    let offers = offered_by rules in
    ReportsField (lookup_field_of flags rules.fallbacks.now field)
    (λ read. ReportsOpen site
    (λ s. ReportsEither (IsLookupText s.cells id offers read (default_of default) place)
    (RefusesLookup id offers read (default_of default)) ReportsLabelText))

-- the lines of a filter of the handle's site
abbrev pub ReportsFilter : Option SiteState → Rules → ℕ → Text → Text → Ends
ReportsFilter site rules flags id field =
    let offers = offered_by rules in
    ReportsField (field_of flags field)
    (λ read. ReportsQuestion site (IsFilter id offers read) (RefusesFilter id offers read)
    (λ asked s. AnswersFilter s.cells asked))

-- the language maps of what a reader finds in the handle's site
abbrev pub ReportsBundle : Option SiteState → Rules → ℕ → Text → Text → Ends
ReportsBundle site rules flags field default =
    let offers = offered_by rules in
    ReportsField (lookup_field_of flags rules.fallbacks.now field)
    (λ read. ReportsQuestion site (IsReader offers read (default_of default))
    (RefusesReader offers read (default_of default)) (λ asked s. AnswersBundle s.cells asked))

-- the messages of the handle's site that lack the language
abbrev pub ReportsMissing : Option SiteState → Text → Ends
ReportsMissing site lang =
    ReportsQuestion site (IsMissing lang) (RefusesMissing lang) AnswersMissing

-- the messages of the handle's site whose label in the language is older than in the source
abbrev pub ReportsOutdated : Option SiteState → Text → Text → Ends
ReportsOutdated site lang source =
    ReportsQuestion site (IsOutdated lang source) (RefusesOutdated lang source) AnswersOutdated

-- a text of the handle's whole site
abbrev pub ReportsView : View → Option SiteState → Ends
ReportsView view site = ReportsAsked site (ShowsView view) IsNoMemory

-- the summary of the handle's site, with labels or without; unknown flags are reported as usage
abbrev pub ReportsSummary : ℕ → Option SiteState → Ends
ReportsSummary flags site old new told status =
    MatchOption (shows_of flags) (ReportsUsage old new told status)
    (λ shows. ReportsView (Summary shows) site old new told status)

-- the cells of the handle's site that the summary lacks, for its owner
abbrev pub ReportsDelta : Option SiteState → Text → Ends
ReportsDelta site summary = ReportsAsked site (λ s. IsDelta s summary) (RefusesDelta summary)

-- the lines of what changed from the handle's site to another handle's, where both are open
abbrev pub ReportsChanges : Option SiteState → Option SiteState → Ends
ReportsChanges site other old new told status =
    MatchOption other (ReportsUsage old new told status)
    (λ after. ReportsAsked site (λ before. AreChangeLines before after) IsNoMemory old new told
    status)

-- a line on a refusal, or nothing where there is none
abbrev pub ReportsLine : Option Text → Ends
ReportsLine line old new told status =
    MatchOption line (ReportsNothing 0 old new told status)
    (λ text. ReportsText text 0 found old new told status)

-- what is wanted where a refusal has this number
abbrev pub ReportsMeaning : ℕ → Ends
ReportsMeaning number = ReportsLine (option_map (λ texts. texts.meaning) (refusal_of number))

-- the word for the refusal of this number
abbrev pub ReportsRefusalCode : ℕ → Ends
ReportsRefusalCode number = ReportsLine (option_map (λ texts. texts.code) (refusal_of number))

-- what the command prints of the refusal of this number
abbrev pub ReportsRefusalText : ℕ → Ends
ReportsRefusalText number = ReportsLine (option_map (λ texts. texts.text) (refusal_of number))

-- ---- questions to a document where it lies

-- where the text is the document of some site, and its rows have no blanks, the call ends as it
-- does over this site
abbrev pub ReportsWritten : Text → (Option SiteState → Ends) → Ends
ReportsWritten text As old new told status = (site : SiteState) → IsCompactSite text site
    → As (Some site) old new told status

-- whatever the text is, the arguments of a lookup are refused as over a site, or are a question
abbrev pub ReportsReadLookup : {A : Type 0} → Rules → ℕ → Text → Text → Text → (A → Ends) → Ends
ReportsReadLookup rules flags id field default As =
    let offers = offered_by rules in
    ReportsField (lookup_field_of flags rules.fallbacks.now field)
    (λ read. ReportsRead (IsLookup id offers read (default_of default))
    (RefusesLookup id offers read (default_of default)) As)

-- the same of a filter
abbrev pub ReportsReadFilter : Rules → ℕ → Text → Text → Ends
ReportsReadFilter rules flags id field =
    let offers = offered_by rules in
    ReportsField (field_of flags field)
    (λ read. ReportsRead (IsFilter id offers read) (RefusesFilter id offers read) ReportsAnswer)

-- ---- handles

-- the handle has such a site, or is as it was
abbrev pub ReportsHeld : (SiteState → Type 0) → (FrontFault → Type 0) → Option SiteState
    → Option SiteState → Reports
ReportsHeld Is Refuses old new told status =
    ((site : SiteState) × Is site × (new ≡ Some site) × ReportsDone told status)
    ⊎ ((fault : FrontFault) × OrNoMemory Refuses fault × (new ≡ old)
    × ReportsFault fault told status)

-- the handle holds the site of the document
abbrev pub ReportsOpened : Text → Option SiteState → Option SiteState → Reports
ReportsOpened text = ReportsHeld (ReadsAsSite text) (RefusesDocument text)

-- the handle has the empty site of this name
abbrev pub ReportsNew : Text → Option SiteState → Option SiteState → Reports
ReportsNew name = ReportsHeld (IsNewSite name) (RefusesNewSite name)

-- the other handle is of this site, or is as it was where memory ended
abbrev pub IsShared : SiteState → Option SiteState → Option SiteState → ℤ → Type 0
IsShared site old new status = ((new ≡ Some site) × (status ≡ found))
    ⊎ ((new ≡ old) × (status ≡ out_of_memory))

-- the other handle is of the same site, or is as it was where there is none to share or memory
-- ended
abbrev pub ReportsShared : Option SiteState → Option SiteState → Option SiteState → ℤ → Type 0
ReportsShared site old new status =
    MatchOption site ((new ≡ old) × (status ≡ usage)) (λ s. IsShared s old new status)

-- ---- rules

-- the rules have these texts; or they are as they were, since the texts make none
abbrev pub ReportsRules : Text → Text → Rules → Rules → Reports
ReportsRules offer table old new told status =
    (AreRules offer table new × ReportsDone told status)
    ⊎ ((fault : NegoFault) × RefusesRules offer table fault × (new ≡ old)
    × ReportsFault (field_fault fault) told status)

-- ---- edits

-- why an edit of a site is refused, and the site that it leaves
abbrev pub Refusing : Type 1
Refusing = SiteState → SiteState → FrontFault → Type 0

-- the site is as it was
abbrev pub Keeps : (SiteState → FrontFault → Type 0) → Refusing
Keeps Refuses old new fault = (new ≡ old) × OrNoMemory (Refuses old) fault

-- the site is as it was, but after out of memory one that the edit may leave
abbrev pub Leaving : Edits → (SiteState → FrontFault → Type 0) → Refusing
Leaving Leaves Refuses old new fault =
    Leaves old new × (fault ≢ NoMemory → new ≡ old) × OrNoMemory (Refuses old) fault

-- the handle is as it was, and this is reported as usage
abbrev pub KeepsOnUsage : Option SiteState → Option SiteState → Reports
KeepsOnUsage old new told status = (new ≡ old) × (status ≡ usage) × (told ≡ answered 0 0)

-- a handle that is not open is reported as usage; else it has the site that the edit makes, or the
-- one that a refused edit leaves
abbrev pub ReportsEdited : Edits → Refusing → Option SiteState → Option SiteState → Reports
ReportsEdited Is Refuses old new told status =
    MatchOption old ((new ≡ None) × (status ≡ usage) × (told ≡ answered 0 0))
    (λ before.
    ((after : SiteState) × (new ≡ Some after) × Is before after × ReportsDone told status)
    ⊎ ((fault : FrontFault) × (after : SiteState) × (new ≡ Some after)
    × Refuses before after fault × ReportsFault fault told status))

-- the site with this text put at the key; a refused put leaves it as it was
abbrev pub ReportsPut : ℕ → Text → Text → Text → Option SiteState → Option SiteState → Reports
ReportsPut now id lang text = ReportsEdited (IsPutInto now id lang text)
    (Keeps (RefusesPutInto now id lang text))

-- the site with the key's label deleted; a refused deletion leaves it as it was
abbrev pub ReportsDeleted : ℕ → Text → Text → Option SiteState → Option SiteState → Reports
ReportsDeleted now id lang =
    ReportsEdited (IsDeleted now id lang) (Keeps (RefusesDelete now id lang))

-- what an exchange makes of the handle's site under these flags and this limit; unknown flags are
-- reported as usage
abbrev pub ReportsChecked : ℕ → ℕ → (Checks → Edits) → (Checks → Edits)
    → (Checks → SiteState → FrontFault → Type 0) → Option SiteState → Option SiteState → Reports
ReportsChecked flags limit Is Leaves Refuses old new told status =
    MatchOption (checks_of flags limit) (KeepsOnUsage old new told status)
    (λ checks. ReportsEdited (Is checks) (Leaving (Leaves checks) (Refuses checks)) old new told
    status)

-- the site with a delta for it taken; out of memory may leave it partly joined
abbrev pub ReportsTaken : ℕ → Text → ℕ → Option SiteState → Option SiteState → Reports
ReportsTaken flags delta limit =
    ReportsChecked flags limit (IsTaken delta) (LeavesTake delta) (RefusesTake delta)

-- the site joined to that of another handle; if that is not open it is reported as usage
abbrev pub ReportsMerged : ℕ → Option SiteState → ℕ → Option SiteState → Option SiteState → Reports
ReportsMerged flags other limit old new told status =
    MatchOption other (KeepsOnUsage old new told status)
    (λ site. ReportsChecked flags limit (IsMerged site) (LeavesMerge site) (RefusesMerge site) old
    new told status)

-- the site with each label of the language maps put; a refused import leaves it as it was
abbrev pub ReportsImported : ℕ → Text → Option SiteState → Option SiteState → Reports
ReportsImported now maps =
    ReportsEdited (IsImported now maps) (Keeps (RefusesImport now maps))

-- the site with what changed between two states of language maps; a refused update leaves it as it
-- was
abbrev pub ReportsUpdated : ℕ → Text → Text → Option SiteState → Option SiteState → Reports
ReportsUpdated now before after =
    ReportsEdited (AreUpdated now before after) (Keeps (RefusesUpdates now before after))
