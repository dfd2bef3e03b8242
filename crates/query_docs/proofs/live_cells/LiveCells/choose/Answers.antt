use Rattle.std.proofs.Common.{sym, subst}
use Rattle.std.specs.Option.{option_map}
use Rattle.nego_core.specs.declared.widening.Widening.{Widening}
use Rattle.catalogue.specs.inner.Asking.{IsChosenIn}
use Rattle.query_docs.specs.inner.LiveCells.{labels_of}
use Rattle.catalogue.proofs.LiveLanguagesLemmas.{chosen_by, chosen_off}
use Rattle.query_docs.proofs.live_cells.LiveCells.choose.Goals as goal

pub returns-in-Off : goal.returns-in-Off
returns-in-Off c =
    let labels = labels_of c.args.self.now.cells.now in
    let items = c.args.list.now in
    let default = option_map (λ l. l.now) c.args.default in
    subst (λ (w : Widening). IsChosenIn w labels items default c.choose.result) (sym c.in-Off.is)
    (chosen_off labels items default c.choose.result c.choose.ensures)

pub returns-in-By : goal.returns-in-By
returns-in-By c =
    let labels = labels_of c.args.self.now.cells.now in
    let items = c.args.list.now in
    let default = option_map (λ l. l.now) c.args.default in
    let choice = c.choose_widened.result in
    subst (λ (w : Widening). IsChosenIn w labels items default choice) (sym c.in-By.is)
    (chosen_by c.in-By.scheme labels items default choice c.choose_widened.ensures)
