use Rattle.std.proofs.Common.{◌≡◌, rules, subst}
use Rattle.std.specs.Prelude.{IfErr, OnOk}
use Rattle.std.proofs.lemmas.Result.{IfErr-weaker, on_ok_weaker}
use Rattle.cata_core.specs.Site.{SiteState}
use Rattle.front_core.specs.OpenSite.{AreUpdated, OrNoMemory, RefusesUpdates}
use Rattle.front_core.proofs.OpenSiteLemmas.{SpendsUpdateOf, update_refused}
use Rattle.front_core.proofs.open_site.OpenSite.update.Goals as goal

-- the maps are as they were read, and the changes from the old ones to the new ones were made
pub returns-clause-ok : goal.returns-clause-ok
returns-clause-ok c =
    let site = c.self.inside.share.value in
    let same : site ≡ c.args.self.now = search rules in
    subst
    (λ (s : SiteState). OnOk c.update_in.result
    (AreUpdated c.args.now c.args.old.now c.args.new.now s c.update_in.new.share.value)) same
    (on_ok_weaker c.update_in.result
    (λ made. (
      c.in_ok-before.before,
      c.in_ok-after.after,
      c.in_ok-before.ensures,
      c.in_ok-after.ensures,
      c.update_in.ensures.name,
      made,
    )) c.update_in.ensures.ok)

pub returns-clause-err : goal.returns-clause-err
returns-clause-err c =
    let site = c.self.inside.share.value in
    let before = c.in_ok-before.before in
    let after = c.in_ok-after.after in
    let Refuses = RefusesUpdates c.args.now c.args.old.now c.args.new.now in
    let same : site ≡ c.args.self.now = search rules in
    subst (λ (s : SiteState). IfErr c.update_in.result (OrNoMemory (Refuses s))) same
    (IfErr-weaker c.update_in.result (OrNoMemory (SpendsUpdateOf c.args.now site before after))
    (OrNoMemory (Refuses site))
    (λ fault refused. update_refused c.args.now c.args.old.now c.args.new.now site before after
    fault c.in_ok-before.ensures c.in_ok-after.ensures refused)
    c.update_in.ensures.err)
