use Rattle.std.proofs.Common.{◌∙◌, sym}
use Rattle.catalogue.proofs.LiveLanguagesLemmas.{among_live}
use Rattle.query_docs.specs.inner.LiveCells.{labels_of}
use Rattle.query_docs.proofs.live_cells.LiveCellsLanguages.has.Goals as goal

pub returns : goal.returns
returns c =
    c.has_label.ensures ∙ sym (among_live (labels_of c.args.self.now.cells.now) c.args.lang.now)
