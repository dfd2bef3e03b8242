use Rattle.std.proofs.Common.{◌≡◌, ◌∙◌, ◌++◌, [], ◌∷◌, List, arith, length, refl, subst, sym}
use Rattle.std.proofs.Common.{take, ℕ}
use Rattle.std.proofs.Math.Seq.{take-length}
use Rattle.std.proofs.lemmas.Option.{IfSome_then}
use Rattle.std.specs.Prelude.{option_map}
use Rattle.cell_core.specs.Entry.{EntryKey}
use Rattle.catalogue.specs.CatalogueLatest.{latest_of}
use Rattle.catalogue.specs.Entries.{IsAboveAll}
use Rattle.site_docs.specs.Reading.{ReadsAsSite}
use Rattle.docs_core.specs.inner.FoundChanges.{changes_of}
use Rattle.docs_core.specs.UpdatingChanges.{Change}
use Rattle.docs_core.specs.inner.StampedRows.{HoldsStamped}
use Rattle.docs_core.specs.declared.call.found_changes.KeyChange.{KeyChange}
use Rattle.docs_core.proofs.StampedRowsLemmas.{above_taken, taken_more}
use Rattle.docs_core.proofs.call.updating.with_changes.Goals as goal

-- no change is written
pub loop-change-init : goal.loop-change-init
loop-change-init c = record { site = refl; holds = λ now name last holds. holds }

-- the rows are read as far as they are joined
pub add-requires : goal.add-requires
add-requires c =
    let req = c.requires.holds in
    let so_far = (c.loop-change.invariant.holds req.0 req.1 req.2 req.3).synced in
    (c.loop-change.stamped.site.now, so_far.read, so_far.has_read)

-- one change more
pub loop-change-preserved : goal.loop-change-preserved
loop-change-preserved c =
    let inv = c.loop-change.invariant in
    let items = c.args.changes.now in
    let i = c.loop-change.change-index in
    let item = c.change-item.result in
    let of : KeyChange → Change = λ x.
    (x.key.now.0, option_map (λ l. l.now) x.label) in
    let keyed : (c.id.result.now, c.lang.result.now) ≡ item.key.now.0 =
    λ j. (c.id.ensures j, c.lang.ensures j) in
    let above = subst (λ (k : EntryKey). IsAboveAll k (changes_of (take i items))) (sym keyed)
    (above_taken of items i item c.loop-change-test.true c.change-item.is
    c.requires.ascending) in
    let more = taken_more of items i item c.loop-change-test.true c.change-item.is in record {
      site = c.add.ensures.site ∙ inv.site;
      holds = λ now name last begun.
          subst (HoldsStamped now name last c.add.new.self)
          ((λ j. changes_of (take i items) ++ (keyed j, c.in-Ok.ensures j) ∷ []) ∙ sym more)
          (c.in_ok-add.ensures.holds now name last (changes_of (take i items)) above
          (inv.holds now name last begun));
    }

-- the rows are read as far as they are joined
pub close-requires : goal.close-requires
close-requires c =
    let req = c.requires.holds in
    let so_far = (c.loop-change.invariant.holds req.0 req.1 req.2 req.3).synced in
    (c.loop-change.stamped.site.now, so_far.read, so_far.has_read)

-- all changes are written
pub returns : goal.returns
returns c =
    let inv = c.loop-change.invariant in
    let items = c.args.changes.now in
    let all : c.loop-change.change-index ≡ length items = omega arith in
    let holds = rw (all, take-length) at inv.holds in
    IfSome_then c.close.result c.close.ensures (λ doc closed. λ now name own reads begun.
    closed now name own (changes_of items)
    (subst (λ (b : List ℕ). ReadsAsSite b (record { name = name; cells = own })) (sym inv.site)
    reads)
    (holds now name (latest_of own) begun))
