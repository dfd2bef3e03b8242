use Rattle.std.proofs.Common.{◌∙◌, [], List, inl, inr, refl, subst, sym, ℕ}
use Rattle.std.proofs.lemmas.Option.{IfSome_then}
use Rattle.std.proofs.lemmas.Result.{err_from_is_err_and}
use Rattle.catalogue.specs.CatalogueLatest.{latest_of}
use Rattle.cata_core.specs.Site.{SiteState}
use Rattle.site_docs.specs.Reading.{ReadsAsSite}
use Rattle.map_docs.proofs.MapsLabelsLemmas.{else_by}
use Rattle.docs_core.specs.ImportingLabels.{puts_of}
use Rattle.docs_core.proofs.StampedRowsLemmas.{stamped_same}
use Rattle.docs_core.proofs.call.importing.imported_rows.Goals as goal

-- no label is taken yet
pub take_langmaps-requires : goal.take_langmaps-requires
take_langmaps-requires c =
    let stamped = c.in_ok-stamped.stamped in
    let begun = c.in_ok-stamped.ensures in (
      refl,
      stamped_same c.args.now stamped.now c.in_ok-name.name stamped.name
          c.in_ok-name.stamps.latest stamped.latest stamped [] (sym begun.holds.time)
          (sym begun.holds.site) (sym begun.latest) begun.holds,
    )

-- the rows are read as far as they are joined
pub close-requires : goal.close-requires
close-requires c =
    let taken = rw c.in-None.is at c.in_ok-take_langmaps.ensures in
    let so_far = taken.2.1.synced in
    (c.take_langmaps.new.taker.site.now, so_far.read, so_far.has_read)

-- all labels were taken as they were read
pub returns-in-None : goal.returns-in-None
returns-in-None c =
    let taken = rw c.in-None.is at c.in_ok-take_langmaps.ensures in
    let show = c.in_ok-name.ensures in
    let name = c.in_ok-name.name in
    let first = c.in_ok-stamped.stamped in
    let begun = c.in_ok-stamped.ensures in
    let left = c.take_langmaps.new.taker in
    let site : SiteState = record { name = name; cells = show.0 } in
    IfSome_then c.close.result c.close.ensures (λ doc closed.
    let made = closed c.args.now name show.0 (puts_of taken.0)
    (subst (λ (b : List ℕ). ReadsAsSite b site) (sym (taken.2.0 ∙ begun.site)) show.1)
    (stamped_same first.now c.args.now first.name name first.latest (latest_of show.0) left
    (puts_of taken.0) begun.holds.time begun.holds.site (begun.latest ∙ show.2) taken.2.1) in
    (site, taken.0, made.0, show.1, taken.1, made.1, made.2))

-- the labels were read in another order
pub returns-in-Some-2 : goal.returns-in-Some-2
returns-in-Some-2 c =
    let show = c.in_ok-name.ensures in
    let name = c.in_ok-name.name in
    let are = rw c.in-Some-2.is at c.in_ok-take_langmaps.ensures in
    IfSome_then c.with_labels.result c.with_labels.ensures (λ doc given.
    let made = given show.0 show.1 show.2 in
    (record { name = name; cells = show.0 }, c.in-Some-2.maps, made.0, show.1, are, made.1, made.2))

-- the site is refused
pub returns-in_err-name : goal.returns-in_err-name
returns-in_err-name c =
    let p = err_from_is_err_and c.from_residual.result c.from_residual.ensures.1 in
    rw (p.1, p.2) (else_by c.in_err-name.ensures (λ h. inl h))

-- the language maps are refused
pub returns-in_err-take_langmaps : goal.returns-in_err-take_langmaps
returns-in_err-take_langmaps c =
    let p = err_from_is_err_and c.from_residual-in_err-take_langmaps.result
    c.from_residual-in_err-take_langmaps.ensures.1 in
    let show = c.in_ok-name.ensures in
    rw (p.1, p.2) (else_by c.in_err-take_langmaps.ensures
    (λ h. inr (inl (record { name = c.in_ok-name.name; cells = show.0 }, show.1, h))))
