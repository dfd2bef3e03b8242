use Rattle.std.proofs.Common.{[], ◌∷◌, Some, sym, ◌∙◌, ap, subst}
use Rattle.cata_core.specs.LatestKnown.{IsKnownLatest}
use Rattle.cata_core.proofs.LatestKnownLemmas.{known_joined}
use Rattle.cata_core.proofs.site.Site.apply.Goals as goal

pub invariant_of-self-2 : goal.invariant_of-self-2
invariant_of-self-2 c =
    subst (λ l. IsKnownLatest l c.apply.new.self) (sym c.with-self-inside.ensures)
    (known_joined c.self.inside.latest c.self.inside.catalogue (c.args.edit.now ∷ [])
    c.apply.new.self (Some c.stamp.result) c.self.invariant c.in_ok-apply.ensures.agree
    (ap Some (c.stamp.ensures ∙ ap (λ d. d.stamp) c.cell.ensures)) c.in_ok-apply.ensures.ok)
