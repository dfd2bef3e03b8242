use Rattle.std.proofs.Common.{subst}
use Rattle.cell_core.specs.Keyed.{IsMap}
use Rattle.cell_core.specs.Entry.{key_cmp}
use Rattle.catalogue.proofs.CatalogueNestedLemmas.{IsMap-catalogue}
use Rattle.catalogue.proofs.catalogue.Catalogue.len.Goals as goal

pub returns-clause-sorted : goal.returns-clause-sorted
returns-clause-sorted c =
    subst (IsMap key_cmp) c.self.view_is (IsMap-catalogue c.self.inside.map c.self.invariant.nested)
