use Rattle.std.proofs.Common.{◌≡◌, ◌++◌, sym, ◌∙◌, subst}
use Rattle.cell_core.specs.Keyed.{IsMap}
use Rattle.cata_core.specs.Delta.{summary_of}
use Rattle.cell_core.specs.Entry.{key_cmp}
use Rattle.catalogue.specs.Entries.{Entries}
use Rattle.catalogue.proofs.Basics.{append_nil}
use Rattle.cata_core.proofs.SummaryLemmas.{summary-IsMap}
use Rattle.cata_core.proofs.summary.Summary.of.Goals as goal

pub invariant_of-result : goal.invariant_of-result
invariant_of-result c =
    let all : c.loop-id.entries.items ≡ summary_of c.args.catalogue.now =
    sym (append_nil c.loop-id.entries.items)
    ∙ subst
    (λ (left : Entries). c.loop-id.entries.items ++ summary_of left
    ≡ summary_of c.args.catalogue.now) c.in-None.ensures.steps.0 c.loop-id.invariant in
    subst (IsMap key_cmp) (sym all)
    (summary-IsMap c.args.catalogue.now c.iter-id-items.ensures.sorted)
