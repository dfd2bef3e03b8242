-- From what answers a question to what answers the words that read as it.
use Rattle.std.proofs.Common.{◌≡◌, ℕ, List, inl, inr, refl, subst}
use Rattle.std.specs.Prelude.{Err, MatchResult, Ok, Result}
use Rattle.cata_core.specs.Site.{SiteState}
use Rattle.json_docs.specs.Sources.{ReadsWhole}
use Rattle.site_docs.specs.Reading.{ReadsAsSite}
use Rattle.front_core.specs.Ask.{RefusesDocument}
use Rattle.front_core.specs.declared.answer.Answer.{Answer}
use Rattle.front_core.specs.declared.fault.FrontFault.{FrontFault}
use Rattle.command_core.specs.inner.TaskActs.{Asks}
use Rattle.command_core.specs.OutputStreams.{Reader}

module _ {Q : Type 0} (question : Result Q FrontFault) (Reads : Q → Type 0)
    (Refuses : FrontFault → Type 0) (h : MatchResult question Reads Refuses) where
  read_as : (asked : Q) → question ≡ Ok asked → Reads asked
  read_as asked is = subst (λ (r : Result Q FrontFault). MatchResult r Reads Refuses) is h

  refused_as : (fault : FrontFault) → question ≡ Err fault → Refuses fault
  refused_as fault is = subst (λ (r : Result Q FrontFault). MatchResult r Reads Refuses) is h

  -- The answer to a question that was read is that to the words, and so is its refusal.
  pub asks_as : {R : Type 0} → (Is : Q → SiteState → Answer → Type 0) (reader : Reader R)
      (answered : Result Answer FrontFault)
      → Asks (λ asked. question ≡ Ok asked) (λ fault. question ≡ Err fault) Is reader answered
      → Asks Reads Refuses Is reader answered
  asks_as Is reader (Ok answer)
      (input, whole, (site, a, reads, (asked, is, answers), text, status)) =
      (input, whole, (site, a, reads, (asked, read_as asked is, answers), text, status))
  asks_as Is reader (Err fault) (inl (is, unread)) = inl (refused_as fault is, unread)
  asks_as Is reader (Err fault) (inr ((asked, is), fails)) = inr ((asked, read_as asked is), fails)

-- A question that was read is answered over the site of the input that was read.
pub input_asked : {R Q : Type 0} (question : Result Q FrontFault)
    (Is : Q → SiteState → Answer → Type 0) (asked : Q) (reader : Reader R) (input : List ℕ)
    (answered : Result Answer FrontFault) → question ≡ Ok asked
    → ReadsWhole reader.failed reader.remaining reader.old reader.new input
    → MatchResult answered
    (λ answer. (site : SiteState) × ReadsAsSite input site × Is asked site answer)
    (RefusesDocument input)
    → Asks (λ q. question ≡ Ok q) (λ fault. question ≡ Err fault) Is reader answered
input_asked question Is asked reader input (Ok answer) is whole (site, reads, answers) =
    (input, whole, (site, answer, reads, (asked, is, answers), refl, refl))
input_asked question Is asked reader input (Err fault) is whole (refused, why, form) =
    inr ((asked, is), (refused, inr (input, whole, why), form))
