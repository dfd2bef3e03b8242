use Rattle.std.proofs.Common.{List, [], ◌∷◌, ◌++◌, sym, ◌∙◌, ap, subst}
use Rattle.cell_core.specs.Keyed.{IsMap}
use Rattle.cell_core.specs.Entry.{key_cmp}
use Rattle.catalogue.specs.Entries.{IsAboveAll}
use Rattle.map_docs.specs.Maps.{Labelled}
use Rattle.catalogue.proofs.CatalogueAboveLemmas.{IsMap-behind}
use Rattle.map_docs.proofs.maps.LangMaps.push.Goals as goal

pub invariant_of-self-2 : goal.invariant_of-self-2
invariant_of-self-2 c =
    let labels : List Labelled = c.self.inside.labels.items in
    subst (IsMap key_cmp)
    (sym (c.in_ok-push.ensures.items ∙ ap (λ l. labels ++ l ∷ []) c.new.ensures))
    (IsMap-behind c.self.inside.labels.items (c.args.id, c.args.lang) c.args.label c.self.invariant
    (subst (λ (s : List Labelled). IsAboveAll (c.args.id, c.args.lang) s) (sym c.self.view_is)
    c.requires))
