use Rattle.std.proofs.Common.{◌+◌, length, sym, ◌∙◌, ap, subst}
use Rattle.cell_core.specs.Keyed.{IsMap}
use Rattle.catalogue.specs.inner.CatalogueCounts.{count_absent}
use Rattle.cell_core.specs.Entry.{key_cmp}
use Rattle.catalogue.specs.Entries.{joined}
use Rattle.catalogue.proofs.CatalogueJoinedCountsLemmas.{length_joined, if_some_of}
use Rattle.catalogue.proofs.CatalogueNestedLemmas.{IsMap-catalogue}
use Rattle.catalogue.proofs.catalogue.Catalogue.joined_len.Goals as goal

pub returns : goal.returns
returns c =
    let own =
    subst (IsMap key_cmp) c.self.view_is
    (IsMap-catalogue c.self.inside.map c.self.invariant.nested) in
    let other =
    subst (IsMap key_cmp) c.other.view_is
    (IsMap-catalogue c.other.inside.map c.other.invariant.nested) in
    if_some_of _ c.checked_add.result (c.self.inside.len + c.count_absent.result)
    (length (joined c.args.self.now c.args.other.now)) c.checked_add.ensures
    ((λ i. c.self.invariant.counted i + c.count_absent.ensures i)
    ∙ ap (λ es. length es + count_absent c.args.self.now c.args.other.now) c.self.view_is
    ∙ sym (length_joined c.args.self.now c.args.other.now own other))
