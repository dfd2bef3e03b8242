use Rattle.std.proofs.Common.{◌≡◌, true, sym, ◌∙◌, subst}
use Rattle.std.specs.Result.{is_ok}
use Rattle.catalogue.specs.Entries.{Agree}
use Rattle.cata_core.specs.Site.{SiteState}
use Rattle.cata_core.specs.LatestKnown.{IsKnownLatest}
use Rattle.catalogue.specs.CatalogueLatest.{latest_of}
use Rattle.catalogue.proofs.CatalogueJoinedLatestLemmas.{at_ok}
use Rattle.cata_core.proofs.LatestKnownLemmas.{known_joined}
use Rattle.cata_core.proofs.site.Site.join.Goals as goal
use Rattle.cata_core.proofs.site.Site.join.Goals.{then-is_ok, else-is_ok}

-- What is known of the latest stamp is true: joined, the cells have the later of both latest
-- stamps; where memory ended nothing is known.
pub invariant_of-self : goal.invariant_of-self
invariant_of-self c =
    elim c.if-is_ok.branch as (λ _. IsKnownLatest c.if-is_ok.self c.join-result.new.self) [
      | then-is_ok w ↦
          let is : is_ok c.join-result.result ≡ true =
          sym c.is_ok.ensures.value ∙ w.if-is_ok.true in
          let agree =
          subst (λ (s : SiteState). Agree s.cells c.args.other.now) (sym c.self.view_is)
          c.requires.agree in
          subst (λ l. IsKnownLatest l c.join-result.new.self)
          (sym (w.self-is ∙ w.with_cells-self-inside.ensures))
          (known_joined c.self.inside.latest c.self.inside.catalogue c.args.other.now
          c.join-result.new.self (latest_of c.args.other.now) c.self.invariant agree
          (λ _. latest_of c.args.other.now)
          (at_ok c.join-result.result c.join-result.ensures.ok is))
      | else-is_ok w ↦ subst (λ l. IsKnownLatest l c.join-result.new.self) (sym w.self-is) tt
    ]
