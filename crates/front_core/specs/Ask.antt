-- Questions to a site, whether it is open or the text of its document, and what answers them
-- (project rules).
use Rattle.std.specs.Prelude.{◌≡◌, ◌⊎◌, List, ℕ, ◌≤◌, Bool, Option, None, Some, false, true, length}
use Rattle.std.specs.Prelude.{option_map, slice_get}
use Rattle.std.specs.Str.{IsUtf8}
use Rattle.cell_core.specs.MessageId.{IsMessageId}
use Rattle.cell_core.specs.declared.fault.CellFault.{CellFault}
use Rattle.cell_core.specs.declared.fault.CellFault.TheVariants as cell
use Rattle.cata_core.specs.Site.{SiteState}
use Rattle.catalogue.specs.Asking.{IsLookupAnswerBy}
use Rattle.catalogue.specs.Entries.{Entries}
use Rattle.catalogue.specs.EntriesOffered.{offered_cells}
use Rattle.catalogue.specs.declared.reply.Reply.{Reply}
use Rattle.json_docs.specs.FaultChecks.{OrMemory}
use Rattle.row_docs.specs.Reading.{IsOfDocument, no_memory}
use Rattle.site_docs.specs.Reading.{ReadsAsSite, RefusesSite}
use Rattle.map_docs.specs.WritingTexts.{AreWritten}
use Rattle.map_docs.specs.Maps.{Labelled}
use Rattle.query_docs.specs.Asking.{Answers, is_found as is_reply}
use Rattle.query_docs.specs.Bundling.{IsBundleBy}
use Rattle.query_docs.specs.Lines.{reply_line}
use Rattle.query_docs.specs.LiveCellsLookup.{answered}
use Rattle.query_docs.specs.declared.asking.Ask.TheVariants as ask
use Rattle.front_core.specs.Fault.{IsOf, document_fault, cell_fault, field_fault}
use Rattle.front_core.specs.Offering.{HasOffer, IsOffer, Offers, RefusesOffer}
use Rattle.front_core.specs.Preferences.{FieldText, ReadsAs, RefusesRanges, Text}
use Rattle.front_core.specs.Reader.{IsReader, RefusesReader}
use Rattle.front_core.specs.declared.answer.Answer.{Answer}
use Rattle.front_core.specs.declared.ask.SiteIn.{SiteIn}
use Rattle.front_core.specs.declared.ask.SiteIn.TheVariants.{Document, Open}
use Rattle.front_core.specs.declared.fault.FrontFault.{FrontFault}
use Rattle.front_core.specs.declared.fault.FrontFault.TheVariants.{NoMemory}
use Rattle.front_core.specs.declared.answer.LabelText.{LabelText}
use Rattle.front_core.specs.declared.answer.Outcome.{Outcome}
use Rattle.front_core.specs.declared.answer.Outcome.TheVariants.{Found, Nothing}
use Rattle.front_core.specs.declared.ask.Filter.{Filter}
use Rattle.front_core.specs.declared.ask.Lookup.{Lookup}
use Rattle.front_core.specs.declared.reader.Reader.{Reader}
use Rattle.front_core.specs.declared.answer.LabelText.TheVariants as label

-- why bytes are no document of a site; or memory ended
abbrev pub RefusesDocument : List ℕ → FrontFault → Type 0
RefusesDocument bytes = IsOf document_fault (OrMemory no_memory
    (IsOfDocument 1 (RefusesSite bytes)))

-- memory ended
abbrev pub IsNoMemory : FrontFault → Type 0
IsNoMemory fault = fault ≡ NoMemory

-- the site that is asked
abbrev pub IsSiteIn : SiteIn → SiteState → Type 0
IsSiteIn (Document bytes) site = ReadsAsSite bytes.now site
IsSiteIn (Open held) site = site ≡ held.now

-- the answer is this one over the site that is asked
abbrev pub IsAnsweredIn : SiteIn → (SiteState → Answer → Type 0) → Answer → Type 0
IsAnsweredIn asked Is answer = (site : SiteState) × IsSiteIn asked site × Is site answer

-- why there is no answer: the document is refused, or memory ended
abbrev pub RefusesIn : SiteIn → FrontFault → Type 0
RefusesIn (Document bytes) fault = RefusesDocument bytes.now fault
RefusesIn (Open held) fault = IsNoMemory fault

-- ---- reading a question and answering it at once

-- the arguments read as some question
abbrev pub HasQuestion : {Q : Type 0} → (Q → Type 0) → Type 0
HasQuestion {Q} Reads = (asked : Q) × Reads asked

-- what answers the question that the arguments read as
abbrev pub IsAnswer : {Q : Type 0} → (Q → Type 0) → (Q → SiteState → Answer → Type 0) → SiteState
    → Answer → Type 0
IsAnswer {Q} Reads Answers site answer = (asked : Q) × Reads asked × Answers asked site answer

-- the arguments are refused, or memory ended before the answer
abbrev pub RefusesAnswer : {Q : Type 0} → (Q → Type 0) → (FrontFault → Type 0) → FrontFault → Type 0
RefusesAnswer Reads Refuses fault = Refuses fault ⊎ (HasQuestion Reads × (fault ≡ NoMemory))

-- whether anything was found
abbrev pub is_found : Outcome → Bool
is_found Found = true
is_found Nothing = false

-- ---- ids

-- the bytes are the text of a message id
abbrev pub IsId : Text → Type 0
IsId id = IsUtf8 id × IsMessageId id

-- the bytes are no message id, or they are one and memory ended
abbrev pub RefusesIdText : Text → CellFault → Type 0
RefusesIdText id cell.IdRefused = ¬ IsId id
RefusesIdText id cell.NoMemory = IsId id
RefusesIdText id _ = ⊥

-- the same, in the form that refusals have here
abbrev pub RefusesId : Text → FrontFault → Type 0
RefusesId id = IsOf cell_fault (RefusesIdText id)

-- ---- the questions

-- the question of a lookup: this message, and this reader
abbrev pub IsLookup : Text → Offers → FieldText → Option Text → Lookup → Type 0
IsLookup id offers field word asked = IsId id × (asked.id ≡ id)
    × IsReader offers field word asked.reader

-- the id is refused first, then the default, then the offer, and then the field
abbrev pub RefusesLookup : Text → Offers → FieldText → Option Text → FrontFault → Type 0
RefusesLookup id offers field word fault = RefusesId id fault
    ⊎ (IsId id × RefusesReader offers field word fault)

-- the question of a filter: this message, the offer, the field's scheme, and its list
abbrev pub IsFilter : Text → Offers → FieldText → Filter → Type 0
IsFilter id offers field asked = IsId id × (asked.id ≡ id) × (asked.scheme ≡ field.scheme)
    × ReadsAs field asked.list × IsOffer offers asked.offer

-- the id is refused first, then the offer, and then the field
abbrev pub RefusesFilter : Text → Offers → FieldText → FrontFault → Type 0
RefusesFilter id offers field fault = RefusesId id fault
    ⊎ (IsId id × (IsOf field_fault (RefusesOffer offers) fault
    ⊎ (HasOffer offers × IsOf field_fault (RefusesRanges field) fault)))

-- ---- what answers it, over the cells of a site

-- what lookup (RFC 4647 section 3.4), or widened lookup, finds among the live labels of the message
-- that are offered
abbrev pub IsReply : Entries → Lookup → Reply → Type 0
IsReply cells asked reply =
    IsLookupAnswerBy asked.reader.preferences.widening (offered_cells asked.reader.offer cells)
    asked.id asked.reader.preferences.list asked.reader.preferences.default reply

-- its line
abbrev pub AnswersLookup : Entries → Lookup → Answer → Type 0
AnswersLookup cells asked answer =
    (reply : Reply) × IsReply cells asked reply × (answer.text ≡ reply_line reply)
    × (is_found answer.outcome ≡ is_reply reply)

-- the texts of the label that was answered
abbrev pub texts_of : Reply → Option (List Text)
texts_of reply = option_map (λ found. found.1) (answered reply)

-- what is at a place of these texts
abbrev pub IsTextAt : ℕ → Option (List Text) → LabelText → Type 0
IsTextAt place None label.Nothing = Unit {0}
IsTextAt place (Some texts) (label.Found text count) = (slice_get texts place ≡ Some text.now)
    × (count ≡ length texts)
IsTextAt place (Some texts) (label.PastEnd count) = (length texts ≤ place) × (count ≡ length texts)
IsTextAt _ _ _ = ⊥

-- the text at a place of the label that lookup finds
abbrev pub AnswersText : Entries → Lookup → ℕ → LabelText → Type 0
AnswersText cells asked place text =
    (reply : Reply) × IsReply cells asked reply × IsTextAt place (texts_of reply) text

-- the lines of the live labels of the message that are offered and that the list takes (RFC 4647
-- section 3.3)
abbrev pub AnswersFilter : Entries → Filter → Answer → Type 0
AnswersFilter cells asked answer = Answers (offered_cells asked.offer cells) asked.id
    (ask.Filter asked.scheme asked.list) answer.text (is_found answer.outcome)

-- the language maps of the labels that lookup finds among those that are offered, one for each
-- message at most
abbrev pub AnswersBundle : Entries → Reader → Answer → Type 0
AnswersBundle cells asked answer =
    (labels : List Labelled)
    × IsBundleBy asked.preferences.widening (offered_cells asked.offer cells)
    asked.preferences.list asked.preferences.default labels
    × AreWritten labels answer.text (is_found answer.outcome)

-- the text at a place of the label that the lookup asked finds
abbrev pub IsLookupText : Entries → Text → Offers → FieldText → Option Text → ℕ → LabelText
    → Type 0
IsLookupText cells id offers field word place text = (asked : Lookup)
    × IsLookup id offers field word asked × AnswersText cells asked place text
