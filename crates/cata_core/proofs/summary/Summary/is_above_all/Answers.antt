use Rattle.std.specs.Prelude.{slice_get, ◌↔◌, IsTrue, Bool}
use Rattle.std.proofs.Common.{◌≡◌, ◌-◌, length, Some, sym, ap, ◌∙◌, subst}
use Rattle.std.specs.Ordering.{is_lt}
use Rattle.cell_core.specs.Keyed.{IsMap}
use Rattle.cata_core.specs.Delta.{Stamps}
use Rattle.cell_core.specs.Entry.{EntryKey, key_cmp}
use Rattle.catalogue.specs.Entries.{IsAboveAll}
use Rattle.cata_core.specs.Summary.{SummaryState}
use Rattle.catalogue.proofs.PlacesLastKeysLemmas.{above_last}
use Rattle.cata_core.proofs.summary.Summary.is_above_all.Goals as goal

-- The key is above all keys of the summary just where it is above the last one, since they ascend.
pub returns-in-Some : goal.returns-in-Some
returns-in-Some c =
    let stamps_are = ap (λ (s : SummaryState). s.stamps) c.self.view_is in
    let key : EntryKey = (c.args.id.now, c.args.lang.now) in
    let last = c.in-Some.last.now in
    let from : slice_get c.self.inside.entries.items (length c.self.inside.entries.items - 1)
    ≡ Some c.in-Some.last.now =
    sym (c.in-Some.ensures.value ∙ ap (λ xs. slice_get xs (length xs - 1)) c.deref.ensures.value) in
    let tells = c.is_lt.ensures ∙ ap is_lt c.compare.ensures in
    subst (λ (b : Bool). IsTrue b
    ↔ IsAboveAll (c.args.id.now, c.args.lang.now) c.args.self.now.stamps) (sym tells)
    (above_last c.args.self.now.stamps key last.0 last.1
    (subst (IsMap key_cmp) stamps_are c.self.invariant)
    (subst (λ (es : Stamps). slice_get es (length es - 1) ≡ Some c.in-Some.last.now)
    stamps_are from))
