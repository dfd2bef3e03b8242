use Rattle.std.proofs.Common.{◌≡◌, ap, List, subst, sym, ℕ}
use Rattle.catalogue.specs.Entries.{Entries, joined}
use Rattle.catalogue.specs.CatalogueLatest.{latest_of}
use Rattle.cata_core.specs.Site.{SiteState}
use Rattle.site_docs.proofs.ReadingOneDocument.{one_site}
use Rattle.site_docs.specs.Reading.{IsSiteText}
use Rattle.docs_core.specs.UpdatingChanges.{Makes}
use Rattle.docs_core.specs.inner.StampedRows.{AreStamped}
use Rattle.docs_core.specs.inner.SyncedRows.{untested}
use Rattle.docs_core.proofs.StampedRowsLemmas.{stamped_all, stamped_made}
use Rattle.docs_core.proofs.SyncedRowsLemmas.{synced_all, synced_whole}
use Rattle.docs_core.proofs.call.stamped_rows.StampedRows.close.Goals as goal

-- All rows were read, so they are those of the site, since a document is read as one site; the text
-- has the changes joined with them.
pub returns-in-Ok : goal.returns-in-Ok
returns-in-Ok c = λ now name own changes reads holds.
    let self = c.args.self in
    let bytes = self.site.now in
    let all = c.in_ok-write_all.ensures in
    let rows = c.write_all.new.rows in
    let draft = c.write_all.new.draft in
    let seen = holds.cells in
    let whole = synced_whole untested bytes rows draft seen
    (all.1 bytes seen (synced_all untested bytes self.rows self.draft seen holds.synced)) all.0 in
    let owner = c.in_ok-name.name in
    let same = one_site bytes (record { name = owner; cells = whole.read })
    (record { name = name; cells = own })
    (c.in_ok-name.ensures bytes whole.read whole.has_read) reads in
    let cells : whole.read ≡ own = ap (λ (s : SiteState). s.cells) same in
    let is : owner ≡ name = ap (λ (s : SiteState). s.name) same in (
      joined seen whole.read,
      subst (λ (es : Entries). Makes now name changes es (joined seen whole.read)) cells
          (stamped_made now name whole.read seen changes whole.has_read.kept.map whole.agree
          (subst (λ (es : Entries). AreStamped now name (latest_of es) changes seen) (sym cells)
          (stamped_all now name (latest_of own) self changes holds))),
      subst (λ (n : List ℕ). IsSiteText (record { name = n; cells = joined seen whole.read })
          c.in-Ok.doc) is
          (c.in-Ok.ensures (joined seen whole.read) whole.holds whole.map),
    )
