use Rattle.std.proofs.Common.{◌≡◌, [], ◌∷◌, sym, ap, ◌∙◌, subst}
use Rattle.std.specs.FinMap.Entries.{put}
use Rattle.std.proofs.lemmas.Result.{err_from_is_err_and}
use Rattle.cell_core.specs.Stamp.{IsAbove}
use Rattle.cell_core.specs.Entry.{EntryKey, key_cmp}
use Rattle.catalogue.specs.CatalogueLatest.{latest_of}
use Rattle.cata_core.specs.Site.{SiteState}
use Rattle.cata_core.proofs.SiteFaultLemmas.{by_memory}
use Rattle.catalogue.proofs.CatalogueLatestLemmas.{latest_written}
use Rattle.cata_core.proofs.SiteOwnEditsLemmas.{own_agrees, own_joins}
use Rattle.cata_core.proofs.site.Site.write.Goals as goal

pub returns-in_err-join_cell-clause-fault : goal.returns-in_err-join_cell-clause-fault
returns-in_err-join_cell-clause-fault c =
    let es = c.self.inside.catalogue in
    let key : EntryKey = (c.args.id.now, c.args.lang.now) in
    let cell = c.args.cell in
    let above =
    subst (λ (s : SiteState). IsAbove (latest_of s.cells) c.args.cell.stamp)
    (sym c.self.view_is) c.requires in
    let agree = own_agrees es key cell c.join_cell.ensures.sorted above in
    let p = err_from_is_err_and c.from_residual.result c.from_residual.ensures.1 in
    rw (p.1, p.2)
    (by_memory es ((key, cell) ∷ []) c.in_err-join_cell.field-0.0 c.join_cell.ensures.sorted agree
    c.in_err-join_cell.ensures.fault)

pub invariant_of-self-2 : goal.invariant_of-self-2
invariant_of-self-2 c =
    let es = c.self.inside.catalogue in
    let key : EntryKey = (c.args.id.now, c.args.lang.now) in
    let cell = c.args.cell in
    let above =
    subst (λ (s : SiteState). IsAbove (latest_of s.cells) c.args.cell.stamp)
    (sym c.self.view_is) c.requires in
    latest_written es c.join_cell.new.self key cell c.stamp.result
    (c.in_ok-join_cell.ensures.ok ∙ sym (own_joins es key cell c.join_cell.ensures.sorted above))
    above c.stamp.ensures

pub returns-clause-ok : goal.returns-clause-ok
returns-clause-ok c =
    let es = c.self.inside.catalogue in
    let key : EntryKey = (c.args.id.now, c.args.lang.now) in
    let cell = c.args.cell in
    let above =
    subst (λ (s : SiteState). IsAbove (latest_of s.cells) c.args.cell.stamp)
    (sym c.self.view_is) c.requires in
    let written : c.join_cell.new.self ≡ put key_cmp key cell c.args.self.now.cells =
    c.in_ok-join_cell.ensures.ok
    ∙ sym (own_joins es key cell c.join_cell.ensures.sorted above)
    ∙ ap (λ (s : SiteState). put key_cmp key cell s.cells) c.self.view_is in
    λ i. record { name = (c.self.view_is i).name; cells = written i }
