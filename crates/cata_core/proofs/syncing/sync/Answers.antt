use Rattle.std.proofs.Common.{◌≡◌, inr, sym, ◌∙◌, ap, subst}
use Rattle.catalogue.specs.Entries.{Entries, Agree, joined, Between}
use Rattle.catalogue.specs.inner.Entries.{catalogue_laws}
use Rattle.cata_core.specs.Site.{SiteState}
use Rattle.cata_core.proofs.SyncingTurnsLemmas.{agrees_with_join, joined_to_join, between_join}
use Rattle.cata_core.proofs.syncing.sync.Goals as goal

pub join-requires-clause-agree : goal.join-requires-clause-agree
join-requires-clause-agree c =
    let a = c.args.first.now.cells in
    let b = c.args.second.now.cells in
    let agree =
    subst (Agree c.args.first.now.cells) c.catalogue.ensures c.in_ok-merge_with.ensures.agree in
    let both : c.catalogue-2.result.now ≡ joined c.args.first.now.cells c.args.second.now.cells =
    c.catalogue-2.ensures ∙ ap (λ (s : SiteState). s.cells) c.in_ok-merge_with.ensures.ok
    ∙ ap (joined c.args.first.now.cells) c.catalogue.ensures in
    subst (Agree c.args.second.now.cells) (sym both) (agrees_with_join a b agree)

pub returns-in-Ok-clause-second : goal.returns-in-Ok-clause-second
returns-in-Ok-clause-second c =
    let a = c.args.first.now.cells in
    let b = c.args.second.now.cells in
    let agree =
    subst (Agree c.args.first.now.cells) c.catalogue.ensures c.in_ok-merge_with.ensures.agree in
    let both : c.catalogue-2.result.now ≡ joined c.args.first.now.cells c.args.second.now.cells =
    c.catalogue-2.ensures ∙ ap (λ (s : SiteState). s.cells) c.in_ok-merge_with.ensures.ok
    ∙ ap (joined c.args.first.now.cells) c.catalogue.ensures in
    let cells : joined c.args.second.now.cells c.catalogue-2.result.now
    ≡ joined c.args.first.now.cells c.args.second.now.cells =
    ap (joined c.args.second.now.cells) both ∙ joined_to_join a b agree in
    c.in-Ok.ensures.ok ∙ (λ i. record { name = c.args.second.now.name; cells = cells i })

-- Memory ended at the second site: the first has its name and the whole join, which is one of the
-- states on the way to it.
pub returns-in-Err-clause-left_first : goal.returns-in-Err-clause-left_first
returns-in-Err-clause-left_first c =
    let a = c.args.first.now.cells in
    let b = c.args.second.now.cells in
    let agree =
    subst (Agree c.args.first.now.cells) c.catalogue.ensures c.in_ok-merge_with.ensures.agree in
    let cells : c.merge_with.new.self.cells
    ≡ joined c.args.first.now.cells c.args.second.now.cells =
    ap (λ (s : SiteState). s.cells) c.in_ok-merge_with.ensures.ok
    ∙ ap (joined c.args.first.now.cells) c.catalogue.ensures in
    record {
      name = ap (λ (s : SiteState). s.name) c.in_ok-merge_with.ensures.ok;
      cells =
          subst (λ (x : Entries). Between c.args.first.now.cells x c.args.second.now.cells)
          (sym cells) (catalogue_laws.between_last a b agree);
    }

pub returns-in-Err-clause-left_second : goal.returns-in-Err-clause-left_second
returns-in-Err-clause-left_second c =
    let a = c.args.first.now.cells in
    let b = c.args.second.now.cells in
    let agree =
    subst (Agree c.args.first.now.cells) c.catalogue.ensures c.in_ok-merge_with.ensures.agree in
    let both : c.catalogue-2.result.now ≡ joined c.args.first.now.cells c.args.second.now.cells =
    c.catalogue-2.ensures ∙ ap (λ (s : SiteState). s.cells) c.in_ok-merge_with.ensures.ok
    ∙ ap (joined c.args.first.now.cells) c.catalogue.ensures in
    record {
      name = c.join.ensures.name;
      cells =
          between_join b c.join.new.self.cells a agree
          (subst (Between c.args.second.now.cells c.join.new.self.cells) both c.in-Err.ensures.err);
    }

pub returns-in-Err-clause-one_by_one : goal.returns-in-Err-clause-one_by_one
returns-in-Err-clause-one_by_one c =
    inr (ap (λ (s : SiteState). s.cells) c.in_ok-merge_with.ensures.ok
    ∙ ap (joined c.args.first.now.cells) c.catalogue.ensures)
