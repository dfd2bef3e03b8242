use Rattle.std.proofs.Common.{sym, subst}
use Rattle.cell_core.specs.Keyed.{IsMap}
use Rattle.cell_core.specs.Entry.{text_cmp}
use Rattle.catalogue.specs.Live.{live_of}
use Rattle.catalogue.specs.CatalogueNested.{Inner}
use Rattle.catalogue.proofs.MessagesLemmas.{live_of-IsMap}
use Rattle.catalogue.proofs.labels.Labels.new.Goals as goal

pub returns-in-Some-clause-ascend : goal.returns-in-Some-clause-ascend
returns-in-Some-clause-ascend c =
    subst (λ (es : Inner). IsMap text_cmp (live_of es)) (sym c.iter.ensures.rest)
    (live_of-IsMap c.in-Some.cells.now c.iter.ensures.map)
