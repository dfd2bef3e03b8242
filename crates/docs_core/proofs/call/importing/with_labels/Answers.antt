use Rattle.std.proofs.Common.{◌≡◌, ◌∙◌, ◌++◌, [], ◌∷◌, List, Option, Some, ap, arith, length}
use Rattle.std.proofs.Common.{subst, sym, take, ℕ}
use Rattle.std.proofs.Math.Seq.{take-length}
use Rattle.std.proofs.lemmas.Option.{IfSome_then}
use Rattle.cell_core.specs.Keyed.{IsMap}
use Rattle.cell_core.specs.declared.stamp.Stamp.{Stamp}
use Rattle.cell_core.specs.Entry.{key_cmp}
use Rattle.catalogue.specs.Entries.{IsAboveAll}
use Rattle.site_docs.specs.Reading.{ReadsAsSite}
use Rattle.map_docs.specs.Maps.{Labelled}
use Rattle.docs_core.specs.ImportingLabels.{Imports, puts_of}
use Rattle.docs_core.specs.inner.StampedRows.{HoldsStamped}
use Rattle.docs_core.proofs.StampedRowsLemmas.{above_labels_before, labels_more, puts_above}
use Rattle.docs_core.proofs.StampedRowsLemmas.{puts_more}
use Rattle.docs_core.proofs.call.importing.with_labels.Goals as goal

-- the rows are read as far as they are joined
pub add-requires : goal.add-requires
add-requires c =
    let so_far = c.loop-found.invariant.holds.synced in
    (c.loop-found.stamped.site.now, so_far.read, so_far.has_read)

-- the label is one change more
pub loop-found-preserved : goal.loop-found-preserved
loop-found-preserved c =
    let inv = c.loop-found.invariant in
    let items = c.labels-found-items.result.now in
    let i = c.loop-found.found-index in
    let item = c.found-item.result in
    let last = c.args.stamps.now.latest in
    let map = subst (IsMap key_cmp) (sym c.labels-found-items.ensures.labels)
    c.labels-found-items.ensures.sorted in
    let e : Labelled = ((c.id.result.now, c.lang.result.now), c.value.result.now) in
    let same : item ≡ e =
    λ j. ((sym c.id.ensures j, sym c.lang.ensures j), sym c.value.ensures j) in
    let above = puts_above (take i items) e.0
    (subst (λ (l : Labelled). IsAboveAll l.0 (take i items)) same
    (above_labels_before items i item c.loop-found-test.true c.found-item.is map)) in
    let more =
    ap puts_of (labels_more items i item c.loop-found-test.true c.found-item.is
    ∙ ap (λ (l : Labelled). take i items ++ l ∷ []) same)
    ∙ puts_more (take i items) e in record {
      site = c.add.ensures.site ∙ inv.site;
      holds =
          subst (HoldsStamped c.args.now c.args.name last c.add.new.self)
          (ap (λ b. puts_of (take i items) ++ (e.0, Some b) ∷ [])
          c.in-Ok-copy.ensures
          ∙ sym more)
          (c.in_ok-add.ensures.holds c.args.now c.args.name last
          (puts_of (take i items)) above inv.holds);
    }

-- the rows are read as far as they are joined
pub close-requires : goal.close-requires
close-requires c =
    let so_far = c.loop-found.invariant.holds.synced in
    (c.loop-found.stamped.site.now, so_far.read, so_far.has_read)

-- all labels are written
pub returns : goal.returns
returns c =
    let inv = c.loop-found.invariant in
    let items = c.labels-found-items.result.now in
    let last = c.args.stamps.now.latest in
    let name = c.args.name in
    let all : c.loop-found.found-index ≡ length items = omega arith in
    let holds = rw (all, take-length) at inv.holds in
    IfSome_then c.close.result c.close.ensures (λ doc closed. λ own reads latest.
    let made = closed c.args.now name own (puts_of items)
    (subst (λ (b : List ℕ). ReadsAsSite b (record { name = name; cells = own })) (sym inv.site)
    reads)
    (subst (λ (l : Option Stamp). HoldsStamped c.args.now name l c.loop-found.stamped
    (puts_of items)) latest holds) in (
      made.0,
      subst (λ (ls : List Labelled). Imports c.args.now name ls own made.0)
          c.labels-found-items.ensures.labels made.1,
      made.2,
    ))
