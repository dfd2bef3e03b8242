use Rattle.std.specs.Prelude.{slice_get}
use Rattle.std.proofs.Common.{◌-◌, length, sym, ap, ◌∙◌, subst}
use Rattle.std.specs.Prelude.{◌↔◌, IsTrue, Bool}
use Rattle.std.specs.Ordering.{is_lt, ordering_then}
use Rattle.cell_core.specs.Keyed.{IsMap}
use Rattle.cell_core.specs.Entry.{EntryKey, key_cmp}
use Rattle.catalogue.specs.Entries.{Entries, IsAboveAll}
use Rattle.catalogue.proofs.PlacesLastKeysLemmas.{above_last, above_none}
use Rattle.catalogue.proofs.CatalogueNestedLemmas.{IsMap-catalogue}
use Rattle.catalogue.proofs.catalogue.Catalogue.is_above_all.Goals as goal

pub returns-in-Some : goal.returns-in-Some
returns-in-Some c =
    let key : EntryKey = (c.args.id.now, c.args.lang.now) in
    let last : EntryKey = (c.in-Some.last.now, c.in-Some.held.now) in
    let sorted =
    subst (IsMap key_cmp) c.self.view_is
    (IsMap-catalogue c.self.inside.map c.self.invariant.nested) in
    let there =
    sym (c.in-Some.ensures ∙ ap (λ (es : Entries). slice_get es (length es - 1)) c.self.view_is)
    in
    let tells =
    c.is_lt.ensures ∙ ap is_lt c.then.ensures
    ∙ (λ i. is_lt (ordering_then (c.cmp.ensures i) (c.cmp-in-Some.ensures i))) in
    subst (λ (b : Bool). IsTrue b ↔ IsAboveAll (c.args.id.now, c.args.lang.now) c.args.self.now)
    (sym tells) (above_last c.args.self.now key last c.in-Some.field-0-2.now sorted there)

pub returns-in-None : goal.returns-in-None
returns-in-None c =
    let there =
    sym (c.in-None.ensures ∙ ap (λ (es : Entries). slice_get es (length es - 1)) c.self.view_is)
    in
    above_none c.args.self.now (c.args.id.now, c.args.lang.now) there
