use Rattle.std.proofs.Common.{◌≡◌, rules, subst, sym}
use Rattle.std.specs.Prelude.{IfSome}
use Rattle.cell_core.specs.Keyed.{IsMap}
use Rattle.cell_core.specs.Entry.{key_cmp}
use Rattle.cata_core.specs.Site.{SiteState}
use Rattle.front_core.specs.OpenSite.{IsJoined}
use Rattle.front_core.proofs.editing.make_apart.Goals as goal

-- what the site was, joined with the cell of the change, is the edited one
pub exchange-requires : goal.exchange-requires
exchange-requires c =
    let was = c.in_ok-edited.edited in
    let same : was ≡ c.args.share.now.value = search rules in
    let m =
    subst (λ (s : SiteState). IsMap key_cmp s.cells) (sym c.in_ok-edited.ensures.equal)
    c.in_ok-edited.ensures.map in
    subst
    (λ (s : SiteState). IfSome c.of_change-came.result
    (λ cells. IsJoined cells s c.make.new.site)) same
    (c.of_change-came.ensures was c.args.now m c.in-Ok.ensures.ok)
