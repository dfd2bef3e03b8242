-- What answers a question about a message depends on its live labels alone.
use Rattle.std.proofs.Common.{◌≡◌, ◌∙◌, ap, subst, sym}
use Rattle.catalogue.specs.Entries.{Entries}
use Rattle.catalogue.specs.Asking.{IsLookedUpIn}
use Rattle.catalogue.specs.Live.{Labelled, live}
use Rattle.catalogue.specs.EntriesOffered.{offered_cells, offered_labels}
use Rattle.catalogue.specs.declared.reply.Reply.{Reply}
use Rattle.catalogue.proofs.EntriesOfferedLemmas.{live_offered}
use Rattle.list_core.specs.Item.{Item}
use Rattle.query_docs.proofs.OneMessageLemmas.{same_answers}
use Rattle.query_docs.specs.declared.asking.Ask.TheVariants as ask
use Rattle.std.specs.Prelude.{ℕ, Err, List, MatchResult, Ok, Result}
use Rattle.cata_core.specs.Site.{SiteState}
use Rattle.front_core.specs.Ask.{AnswersFilter, AnswersLookup, AnswersText, IsNoMemory, IsReply}
use Rattle.front_core.specs.Ask.{is_found}
use Rattle.front_core.specs.declared.fault.FrontFault.{FrontFault}
use Rattle.front_core.specs.declared.answer.Answer.{Answer}
use Rattle.front_core.specs.declared.answer.LabelText.{LabelText}
use Rattle.front_core.specs.declared.ask.Filter.{Filter}
use Rattle.front_core.specs.declared.ask.Lookup.{Lookup}

-- what is offered of the live labels of a message is one where these are
pub same_offered : (offer : List Item) (cells other : Entries) (id : List ℕ)
    → live cells id ≡ live other id
    → live (offered_cells offer cells) id ≡ live (offered_cells offer other) id
same_offered offer cells other id same =
    live_offered offer cells id ∙ ap (offered_labels offer) same
    ∙ sym (live_offered offer other id)

-- the lines of a filter
pub same_filter : (cells other : Entries) (asked : Filter) (answer : Answer)
    → live cells asked.id ≡ live other asked.id → AnswersFilter cells asked answer
    → AnswersFilter other asked answer
same_filter cells other asked answer same answers =
    same_answers (offered_cells asked.offer cells) (offered_cells asked.offer other) asked.id
    (ask.Filter asked.scheme asked.list) answer.text (is_found answer.outcome)
    (same_offered asked.offer cells other asked.id same) answers

-- the reply of a lookup
pub same_reply : (cells other : Entries) (asked : Lookup) (reply : Reply)
    → live cells asked.id ≡ live other asked.id → IsReply cells asked reply
    → IsReply other asked reply
same_reply cells other asked reply same is =
    let reader = asked.reader.preferences in
    subst
    (λ (l : Labelled). IsLookedUpIn reader.widening l reader.list reader.default reply)
    (same_offered asked.reader.offer cells other asked.id same) is

-- the line of a lookup
pub same_lookup : (cells other : Entries) (asked : Lookup) (answer : Answer)
    → live cells asked.id ≡ live other asked.id → AnswersLookup cells asked answer
    → AnswersLookup other asked answer
same_lookup cells other asked answer same (reply, is, text, found) =
    (reply, same_reply cells other asked reply same is, text, found)

-- a text of its label
pub same_text : (cells other : Entries) (asked : Lookup) (place : ℕ) (text : LabelText)
    → live cells asked.id ≡ live other asked.id → AnswersText cells asked place text
    → AnswersText other asked place text
same_text cells other asked place text same (reply, is, at) =
    (reply, same_reply cells other asked reply same is, at)

-- the answer to a lookup of a part that has the live labels of the message
pub lookup_in : (result : Result Answer FrontFault) (part site : SiteState) (asked : Lookup)
    → live part.cells asked.id ≡ live site.cells asked.id
    → MatchResult result
    (λ answer. (s : SiteState) × (s ≡ part) × AnswersLookup s.cells asked answer) IsNoMemory
    → MatchResult result (AnswersLookup site.cells asked) IsNoMemory
lookup_in (Ok answer) part site asked same (s, is, answers) =
    same_lookup part.cells site.cells asked answer same
    (subst (λ (t : SiteState). AnswersLookup t.cells asked answer) is answers)
lookup_in (Err fault) part site asked same memory = memory

-- the answer of a part that has the live labels of the message
pub filter_in : (result : Result Answer FrontFault) (part site : SiteState) (asked : Filter)
    → live part.cells asked.id ≡ live site.cells asked.id
    → MatchResult result
    (λ answer. (s : SiteState) × (s ≡ part) × AnswersFilter s.cells asked answer) IsNoMemory
    → MatchResult result (AnswersFilter site.cells asked) IsNoMemory
filter_in (Ok answer) part site asked same (s, is, answers) =
    same_filter part.cells site.cells asked answer same
    (subst (λ (t : SiteState). AnswersFilter t.cells asked answer) is answers)
filter_in (Err fault) part site asked same memory = memory
