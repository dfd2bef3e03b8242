use Rattle.std.proofs.Common.{◌≡◌, ◌∙◌, ℕ, List, ap, subst, sym, true}
use Rattle.std.specs.List.{list_all}
use Rattle.summary_docs.specs.Reading.{is_digest}
use Rattle.summary_docs.specs.Shown.{ShownState}
use Rattle.summary_docs.proofs.DigestLemmas.{digests-are}
use Rattle.summary_docs.proofs.summaries.labels_of_site.Goals as goal

pub write_shown-requires-clause-digests : goal.write_shown-requires-clause-digests
write_shown-requires-clause-digests c =
    subst (λ (ds : List (List ℕ)). list_all is_digest ds ≡ true)
    (sym (ap (λ (s : ShownState). s.digests) c.with_owner-shown.ensures
    ∙ c.in_ok-shown.ensures.1.1)) (digests-are c.catalogue.result.now)
