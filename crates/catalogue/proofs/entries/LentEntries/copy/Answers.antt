use Rattle.std.proofs.Common.{◌∙◌, ap, [], ◌∷◌, ◌++◌}
use Rattle.std.proofs.lemmas.List.{take_all}
use Rattle.catalogue.specs.EntriesBorrowed.{weighed_of}
use Rattle.catalogue.proofs.EntriesBorrowedLemmas.{weighed_more}
use Rattle.catalogue.proofs.entries.LentEntries.copy.Goals as goal

pub loop-lang-preserved : goal.loop-lang-preserved
loop-lang-preserved c =
    let e = c.loop-lang-item.result in
    c.in_ok-push.ensures.items
    ∙ (λ i. c.loop-lang.invariant i ++ (c.in_ok-copy.ensures.equal i, c.in_ok-copy-2.ensures i, e.2)
    ∷ [])
    ∙ weighed_more c.deref-lang-items.result.now c.loop-lang.lang-index e c.loop-lang-test.true
    c.loop-lang-item.is

pub returns : goal.returns
returns c =
    c.loop-lang.invariant
    ∙ ap weighed_of
    (take_all c.loop-lang.lang-index c.deref-lang-items.result.now c.loop-lang-test.false
    ∙ c.deref-lang-items.ensures.value) ∙ c.self.view_is
