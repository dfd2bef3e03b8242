use Rattle.std.proofs.Common.{◌∙◌, List, Option, ap₂, subst, sym, ℕ}
use Rattle.std.specs.FinMap.Entries.{put}
use Rattle.cell_core.specs.Stamp.{IsNext}
use Rattle.cell_core.specs.declared.cell.Cell.{Cell}
use Rattle.cell_core.specs.declared.stamp.Stamp.{Stamp}
use Rattle.cell_core.specs.Entry.{EntryKey, key_cmp}
use Rattle.site_docs.specs.Reading.{IsSiteText}
use Rattle.docs_core.specs.inner.EditedRows.{HoldsEdited}
use Rattle.docs_core.proofs.call.sites.edit_document.Goals as goal

-- The rows on both sides of the key are those of the site, and the cell between them has its next
-- stamp.
pub returns : goal.returns
returns c =
    let show = c.in_ok-name.ensures in
    let name : List ℕ = c.in_ok-name.name in
    let rows = c.in_ok-name.rows in
    let stamp : Stamp = c.in_ok-stamp.stamp in
    let key = ap₂ (λ (i l : List ℕ). (i, l)) show.3.0 show.3.1 in
    let given = ap₂ (λ (i l : List ℕ). (i, l)) c.in_ok-start.ensures.0 c.in_ok-start.ensures.1 in
    let holds = subst (λ (k : EntryKey). HoldsEdited rows k show.0) (sym key) show.3.2 in
    let cell = c.new-2.ensures
    ∙ (λ i. record { stamp = stamp; label = c.in_ok-label.ensures i }) in
    let doc = c.in_ok-doc.ensures show.0 holds show.2 in (
      record { name = name; cells = show.0 },
      stamp,
      show.1,
      subst (λ (l : Option Stamp). IsNext l c.args.now name stamp) show.3.2.2
          c.in_ok-stamp.ensures,
      subst
          (λ (x : Cell). IsSiteText
          (record {
            name = name;
            cells = put key_cmp (c.args.id.now, c.args.lang.now) x show.0;
          }) c.in_ok-doc.doc)
          cell
          (subst
          (λ (k : EntryKey). IsSiteText
          (record { name = name; cells = put key_cmp k c.new-2.result show.0 }) c.in_ok-doc.doc)
          (key ∙ given) doc),
    )
