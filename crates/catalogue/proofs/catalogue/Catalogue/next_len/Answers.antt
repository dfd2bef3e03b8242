use Rattle.std.proofs.Common.{◌+◌, length, ◌∙◌, ap}
use Rattle.catalogue.proofs.CatalogueJoinedCountsLemmas.{if_some_of}
use Rattle.catalogue.proofs.catalogue.Catalogue.next_len.Goals as goal

pub returns : goal.returns
returns c =
    if_some_of _ c.checked_add.result (c.self.inside.len + 1) (length c.args.self.now + 1)
    c.checked_add.ensures
    (ap (λ n. n + 1) c.self.invariant.counted ∙ ap (λ es. length es + 1) c.self.view_is)
