-- From what answers a question to what answers the arguments that read as it.
use Rattle.std.proofs.Common.{◌≡◌, ◌≢◌, ℤ, None, Option, Some, inl, inr, refl, subst}
use Rattle.std.specs.Prelude.{Err, IfErr, MatchResult, Ok, OnErr, OnOk, Result, ⊤}
use Rattle.cata_core.specs.Site.{SiteState}
use Rattle.std.specs.Prelude.{ℕ}
use Rattle.cell_core.specs.declared.fault.CellFault.TheVariants as cell
use Rattle.front_core.specs.Offering.{Offers}
use Rattle.front_core.specs.Ask.{AnswersText, IsAnswer, IsLookup, IsLookupText, IsNoMemory}
use Rattle.front_core.specs.Ask.{RefusesAnswer, RefusesLookup}
use Rattle.front_core.specs.declared.ask.Lookup.{Lookup}
use Rattle.front_core.specs.Exchange.{ShowsView}
use Rattle.front_core.specs.declared.answer.Answer.{Answer}
use Rattle.front_core.specs.declared.exchange.View.{View}
use Rattle.front_core.specs.declared.fault.FrontFault.{FrontFault}
use Rattle.front_core.specs.Preferences.{FieldText}
use Rattle.front_core.specs.OpenSite.{Edits, OrNoMemory}
use Rattle.front_core.specs.declared.fault.FrontFault.TheVariants.{NoMemory}
use Rattle.front_c.specs.Calls.{IsShared, Keeps, Leaving, ReportsHeld, ReportsLine, ReportsShared}
use Rattle.front_c.specs.Calls.{ReportsAsked, ReportsEdited, ReportsField, ReportsOpen}
use Rattle.front_c.specs.Calls.{ReportsQuestion, ReportsView}
use Rattle.front_c.specs.inner.Calls.{IsHeld}
use Rattle.front_c.specs.Status.{found}
use Rattle.front_c.specs.Reporting.{ReportsAnswer, ReportsText, Ends, ReportsDone, ReportsEither}
use Rattle.front_c.specs.Reporting.{ReportsFault, ReportsLabelText, ReportsRefusal, ReportsSome}
use Rattle.front_c.specs.Reporting.{Text}
use Rattle.front_c.specs.declared.told.Told.{Told}

module _ {Q : Type 0} (question : Result Q FrontFault) (Reads : Q → Type 0)
    (Refuses : FrontFault → Type 0) where
  read_as : MatchResult question Reads Refuses → (asked : Q) → question ≡ Ok asked → Reads asked
  read_as h asked is = subst (λ (r : Result Q FrontFault). MatchResult r Reads Refuses) is h

  refused_as : MatchResult question Reads Refuses → (fault : FrontFault) → question ≡ Err fault
      → Refuses fault
  refused_as h fault is = subst (λ (r : Result Q FrontFault). MatchResult r Reads Refuses) is h

  -- The answer to a question that was read is that to the arguments, and so is its refusal.
  pub asked_as : (Answers : Q → SiteState → Answer → Type 0) (site : Option SiteState)
      (old new : Text) (told : Told) (status : ℤ) → MatchResult question Reads Refuses
      → ReportsAsked site (IsAnswer (λ asked. question ≡ Ok asked) Answers)
      (RefusesAnswer (λ asked. question ≡ Ok asked) (λ fault. question ≡ Err fault)) old new told
      status
      → ReportsQuestion site Reads Refuses Answers old new told status
  asked_as Answers None old new told status h ends = ends
  asked_as Answers (Some s) old new told status h (inl (answer, (asked, is, answers), ends)) =
      inl (answer, (asked, read_as h asked is, answers), ends)
  asked_as Answers (Some s) old new told status h (inr (fault, inl is, ends)) =
      inr (fault, inl (refused_as h fault is), ends)
  asked_as Answers (Some s) old new told status h (inr (fault, inr ((asked, is), none), ends)) =
      inr (fault, inr ((asked, read_as h asked is), none), ends)

-- A text of the whole site is shown.
pub shown_as : (view : View) (site : Option SiteState) (old new : Text) (told : Told) (status : ℤ)
    → ReportsQuestion site (λ asked. asked ≡ view) (λ _. ⊥) ShowsView old new told status
    → ReportsView view site old new told status
shown_as view None old new told status ends = ends
shown_as view (Some s) old new told status (inl (answer, (asked, is, shows), ends)) =
    inl (answer, subst (λ (v : View). ShowsView v s answer) is shows, ends)
shown_as view (Some s) old new told status (inr (fault, inl is, ends)) = absurd is
shown_as view (Some s) old new told status (inr (fault, inr (asked, none), ends)) =
    inr (fault, none, ends)

-- A refusal is reported.
pub refused_reports : {A : Type 0} → (Is : A → Type 0) (Refuses : FrontFault → Type 0)
    (As : A → Ends) (fault : FrontFault) (out : Text) (told : Told) (status : ℤ)
    → Refuses fault → ReportsRefusal fault out out told status
    → ReportsEither Is Refuses As out out told status
refused_reports Is Refuses As fault out told status refuses ends = inr (fault, refuses, ends)

-- A call with a field ends as it does with what the field reads as.
pub field_as : (given : Option FieldText) (As : FieldText → Ends) (read : FieldText)
    (old new : Text) (told : Told) (status : ℤ) → Some read ≡ given → As read old new told status
    → ReportsField given As old new told status
field_as given As read old new told status is h = rw (← is) h

-- A call with a site ends as it does with the site of an open handle.
pub open_as : (site : Option SiteState) (As : SiteState → Ends) (s : SiteState) (old new : Text)
    (told : Told) (status : ℤ) → site ≡ Some s → As s old new told status
    → ReportsOpen site As old new told status
open_as site As s old new told status is h = rw is h

-- What an edit of an open site comes to is reported, with the site that it leaves.
pub edited_as : (Is Leaves : Edits) (Refuses : SiteState → FrontFault → Type 0)
    (old : Option SiteState) (before after : SiteState) (edit : Result ⊤ FrontFault) (told : Told)
    (status : ℤ) → old ≡ Some before
    → OnOk edit (Is before after) → IfErr edit (OrNoMemory (Refuses before))
    → OnErr edit (Leaves before after)
    → IfErr edit (λ why. why ≢ NoMemory → after ≡ before)
    → MatchResult edit (λ _. ReportsDone told status) (λ why. ReportsFault why told status)
    → ReportsEdited Is (Leaving Leaves Refuses) old (Some after) told status
edited_as Is Leaves Refuses old before after (Ok done) told status is ok err leaves keeps ends =
    rw is (inl (after, refl, ok, ends))
edited_as Is Leaves Refuses old before after (Err why) told status is ok err leaves keeps ends =
    rw is (inr (why, after, refl, (leaves, keeps, err), ends))

-- The same of an edit that leaves the site as it was where it is refused.
pub kept_as : (Is : Edits) (Refuses : SiteState → FrontFault → Type 0) (old : Option SiteState)
    (before after : SiteState) (edit : Result ⊤ FrontFault) (told : Told) (status : ℤ)
    → old ≡ Some before → OnOk edit (Is before after) → IfErr edit (OrNoMemory (Refuses before))
    → OnErr edit (after ≡ before)
    → MatchResult edit (λ _. ReportsDone told status) (λ why. ReportsFault why told status)
    → ReportsEdited Is (Keeps Refuses) old (Some after) told status
kept_as Is Refuses old before after (Ok done) told status is ok err keeps ends =
    rw is (inl (after, refl, ok, ends))
kept_as Is Refuses old before after (Err why) told status is ok err keeps ends =
    rw is (inr (why, after, refl, (keeps, err), ends))

-- An answer or a refusal is reported.
pub report_as : (answer : Result Answer FrontFault) (Is : Answer → Type 0)
    (Refuses : FrontFault → Type 0) (old new : Text) (told : Told) (status : ℤ)
    → MatchResult answer Is Refuses
    → MatchResult answer (λ found. ReportsAnswer found old new told status)
    (λ fault. ReportsRefusal fault old new told status)
    → ReportsEither Is Refuses ReportsAnswer old new told status
report_as (Ok found) Is Refuses old new told status is ends = inl (found, is, ends)
report_as (Err fault) Is Refuses old new told status is ends = inr (fault, is, ends)

-- A line on a refusal is reported.
pub line_as : (line : Option Text) (text : Text) (old new : Text) (told : Told) (status : ℤ)
    → line ≡ Some text → ReportsText text 0 found old new told status
    → ReportsLine line old new told status
line_as line text old new told status is ends = rw is ends

-- A site that was made or read is put into a handle, or not.
pub held_as : (made : Result SiteState FrontFault) (Is : SiteState → Type 0)
    (Refuses Given : FrontFault → Type 0) (old new : Option SiteState) (told : Told) (status : ℤ)
    → MatchResult made Is Given → ((fault : FrontFault) → Given fault → OrNoMemory Refuses fault)
    → IsHeld made old new told status → ReportsHeld Is Refuses old new told status
held_as (Ok site) Is Refuses Given old new told status is form (inl (same, ends)) =
    inl (site, is, same, ends)
held_as (Ok site) Is Refuses Given old new told status is form (inr (same, ends)) =
    inr (NoMemory, inr refl, same, ends)
held_as (Err fault) Is Refuses Given old new told status is form (same, ends) =
    inr (fault, form fault is, same, ends)

-- A share of an open site is put into the other handle, or not.
pub shared_as : (site : Option SiteState) (s share : SiteState) (old new : Option SiteState)
    (status : ℤ) → site ≡ Some s → share ≡ s → IsShared share old new status
    → ReportsShared site old new status
shared_as site s share old new status is same ends =
    rw is (subst (λ (x : SiteState). IsShared x old new status) same ends)

-- What answers a question that was read answers the arguments, and its one refusal is one of them.
pub written_as : {Q : Type 0} (Reads : Q → Type 0) (Refuses : FrontFault → Type 0)
    (Answers : Q → SiteState → Answer → Type 0) (asked : Q) (site : SiteState)
    (answer : Result Answer FrontFault) → Reads asked
    → MatchResult answer (Answers asked site) IsNoMemory
    → MatchResult answer (IsAnswer Reads Answers site) (RefusesAnswer Reads Refuses)
written_as Reads Refuses Answers asked site (Ok answer) reads is = (asked, reads, is)
written_as Reads Refuses Answers asked site (Err fault) reads none = inr ((asked, reads), none)

-- The text that is reported is that of the label which the arguments find.
pub text_as : (site : SiteState) (asked : Lookup) (id : Text) (offers : Offers)
    (read : FieldText) (default : Option Text) (place : ℕ) (old new : Text) (told : Told)
    (status : ℤ) → IsLookup id offers read default asked
    → ReportsEither (AnswersText site.cells asked place) IsNoMemory ReportsLabelText old new told
    status
    → ReportsEither (IsLookupText site.cells id offers read default place)
    (RefusesLookup id offers read default) ReportsLabelText old new told status
text_as site asked id offers read default place old new told status reads
    (inl (text, is, ends)) =
    inl (text, (asked, reads, is), ends)
text_as site asked id offers read default place old new told status reads
    (inr (fault, none, ends)) =
    inr (fault, inl (cell.NoMemory, reads.0, none), ends)

-- Whatever a question comes to is reported.
pub some_as : (answer : Result Answer FrontFault) (old new : Text) (told : Told) (status : ℤ)
    → MatchResult answer (λ found. ReportsAnswer found old new told status)
    (λ fault. ReportsRefusal fault old new told status)
    → ReportsSome ReportsAnswer old new told status
some_as (Ok answer) old new told status ends = inl (answer, tt, ends)
some_as (Err fault) old new told status ends = inr (fault, tt, ends)
