use Rattle.std.proofs.Common.{◌≡◌, rules, subst}
use Rattle.std.specs.Prelude.{IfSome}
use Rattle.std.proofs.lemmas.Result.{err_from_is_err_and}
use Rattle.cata_core.specs.Site.{SiteState}
use Rattle.docs_core.specs.Updating.{Updates}
use Rattle.front_core.specs.OpenSite.{IsJoined}
use Rattle.front_core.proofs.OpenSiteLemmas.{changes_refused}
use Rattle.front_core.proofs.editing.update_in.Goals as goal

pub returns-in_err-update_labels-clause-err : goal.returns-in_err-update_labels-clause-err
returns-in_err-update_labels-clause-err c =
    let p = err_from_is_err_and c.from_residual-in_err-update_labels.result
    c.from_residual-in_err-update_labels.ensures.1 in
    let same : c.in_ok-edited.edited ≡ c.args.share.now.value = search rules in
    rw p.1 (changes_refused c.args.now c.args.share.now.value c.in_ok-edited.edited
    c.args.before.now c.args.after.now c.in_err-update_labels.field-0.0 p.0 same
    c.in_err-update_labels.ensures.err p.2)

-- what the site was, joined with the cells of the update, is the edited one
pub exchange-requires : goal.exchange-requires
exchange-requires c =
    let site = c.update_labels.new.site in
    let was : c.in_ok-edited.edited ≡ c.deref-2.result.now = search rules in
    let made =
    subst
    (λ (s : SiteState). (site.name ≡ s.name)
    × Updates c.args.now s.name c.args.before.now c.args.after.now s.cells site.cells) was
    (c.in_ok-update_labels.ensures.name, c.in_ok-update_labels.ensures.ok) in
    subst
    (λ (s : SiteState). IfSome c.of_update-came.result (λ cells. IsJoined cells s site))
    c.deref-2.ensures (c.of_update-came.ensures c.args.now made.0 made.1)
