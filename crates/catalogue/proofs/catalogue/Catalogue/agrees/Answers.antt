use Rattle.std.proofs.Common.{sym, subst}
use Rattle.catalogue.specs.CatalogueFlat.{flat}
use Rattle.catalogue.specs.Entries.{Agree}
use Rattle.catalogue.proofs.CatalogueNestedLemmas.{agree_both_ways}
use Rattle.catalogue.proofs.catalogue.Catalogue.agrees.Goals as goal

pub returns : goal.returns
returns c =
    let own = c.self.inside.map in
    let other = c.map.result.now in
    let both = agree_both_ways own other c.self.invariant.nested c.map.ensures.nested in (
      (λ t. subst (λ a. Agree a c.args.other.now) c.self.view_is
          (subst (Agree (flat own)) c.map.ensures.flat (both.0 (c.agrees.ensures.0 t)))),
      (λ a. c.agrees.ensures.1
          (both.1 (subst (λ x. Agree x (flat other)) (sym c.self.view_is)
          (subst (Agree c.args.self.now) (sym c.map.ensures.flat) a)))),
    )
