use Rattle.std.proofs.Common.{◌≡◌, ◌∙◌, ℕ, List, ap, subst, sym, true}
use Rattle.std.specs.List.{list_all}
use Rattle.summary_docs.specs.Reading.{is_digest}
use Rattle.summary_docs.specs.Shown.{ShownState}
use Rattle.summary_docs.specs.Writing.{IsShownText}
use Rattle.summary_docs.proofs.DigestLemmas.{digests-are}
use Rattle.summary_docs.proofs.ShownLemmas.{shown-is}
use Rattle.summary_docs.proofs.summaries.labels_of_document.Goals as goal

pub write_shown-requires-clause-digests : goal.write_shown-requires-clause-digests
write_shown-requires-clause-digests c =
    let seen = c.in_ok-name.ensures in
    subst (λ (ds : List (List ℕ)). list_all is_digest ds ≡ true)
    (sym (ap (λ (s : ShownState). s.digests) c.with_owner-shown.ensures ∙ seen.3.1))
    (digests-are seen.0)

-- the summary is that of the cells that were seen
pub returns : goal.returns
returns c =
    let seen = c.in_ok-name.ensures in
    let is = c.with_owner-shown.ensures
    ∙ shown-is c.in_ok-name.name seen.0 _ _ seen.3.0 seen.3.1 in (
      record { name = c.in_ok-name.name; cells = seen.0 },
      seen.1,
      subst (λ (s : ShownState). IsShownText s c.in_ok-doc.doc) is c.in_ok-doc.ensures,
    )
