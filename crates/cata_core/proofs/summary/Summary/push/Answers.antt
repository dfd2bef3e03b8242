use Rattle.std.proofs.Common.{sym, ap, ◌++◌, ◌∷◌, [], ◌∙◌, subst}
use Rattle.cell_core.specs.Keyed.{IsMap}
use Rattle.cell_core.specs.Entry.{key_cmp}
use Rattle.catalogue.specs.Entries.{IsAboveAll}
use Rattle.cata_core.specs.Delta.{Stamps}
use Rattle.cata_core.specs.Summary.{SummaryState}
use Rattle.catalogue.proofs.CatalogueAboveLemmas.{IsMap-behind}
use Rattle.cata_core.proofs.summary.Summary.push.Goals as goal

pub invariant_of-self-2 : goal.invariant_of-self-2
invariant_of-self-2 c =
    let entries : Stamps = c.self.inside.entries.items in
    subst (IsMap key_cmp)
    (sym (c.in_ok-push.ensures.items ∙ ap (λ e. entries ++ e ∷ []) c.new.ensures))
    (IsMap-behind c.self.inside.entries.items (c.args.id, c.args.lang) c.args.stamp
    c.self.invariant
    (subst (λ (s : SummaryState). IsAboveAll (c.args.id, c.args.lang) s.stamps) (sym c.self.view_is)
    c.requires))
