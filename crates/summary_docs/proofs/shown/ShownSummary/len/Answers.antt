use Rattle.std.proofs.Common.{◌∙◌, ap, length, subst, sym}
use Rattle.cell_core.specs.Entry.{key_cmp}
use Rattle.cell_core.specs.Keyed.{IsMap}
use Rattle.cell_core.specs.Label.{texts_of}
use Rattle.summary_docs.specs.Shown.{ShownState, known_in}
use Rattle.summary_docs.proofs.ShownLemmas.{known-IsMap, known-length}
use Rattle.summary_docs.proofs.shown.ShownSummary.len.Goals as goal

pub returns-clause-len : goal.returns-clause-len
returns-clause-len c =
    c.len.ensures.len
    ∙ sym (known-length c.self.inside.summary.stamps (texts_of c.self.inside.digests.items))
    ∙ ap (λ (s : ShownState). length (known_in s)) c.self.view_is

pub returns-clause-sorted : goal.returns-clause-sorted
returns-clause-sorted c =
    subst (λ (s : ShownState). IsMap key_cmp (known_in s)) c.self.view_is
    (known-IsMap c.self.inside.summary.stamps (texts_of c.self.inside.digests.items)
    c.len.ensures.sorted)
