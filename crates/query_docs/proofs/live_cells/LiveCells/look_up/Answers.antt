use Rattle.std.proofs.Common.{Option, refl, subst, sym}
use Rattle.std.specs.Prelude.{Some, option_map}
use Rattle.std.specs.Borrow.{Bor}
use Rattle.lang_core.specs.declared.lang.Lang.{Lang}
use Rattle.nego_core.specs.declared.choosing.Choice.{Choice}
use Rattle.nego_core.specs.declared.choosing.Choice.TheVariants as choice
use Rattle.catalogue.specs.Asking.{IsLookedUpIn}
use Rattle.catalogue.specs.inner.Asking.{IsChosenIn}
use Rattle.catalogue.specs.declared.reply.Reply.TheVariants.{Default, Matched}
use Rattle.catalogue.proofs.LiveLanguagesLemmas.{found_live, replied}
use Rattle.query_docs.specs.inner.LiveCells.{found_in, labels_of}
use Rattle.query_docs.proofs.LiveCellsLemmas.{found_live_label}
use Rattle.query_docs.proofs.live_cells.LiveCells.look_up.Goals as goal

-- what is chosen has a label, which is that of the cell
pub returns-in-Matched-clause-reply : goal.returns-in-Matched-clause-reply
returns-in-Matched-clause-reply c =
    let widening = c.args.widening in
    let labels = labels_of c.args.self.now.cells.now in
    let items = c.args.list.now in
    let default = option_map (λ l. l.now) c.args.default in
    let text = c.in-Matched.text in
    let chosen = subst (λ (x : Choice). IsChosenIn widening labels items default x)
    c.in-Matched.is c.choose.ensures in
    let found = found_live_label labels text.now (found_in c.live_cell.result)
    c.live_cell.ensures.found (found_live widening labels items text.now chosen) in
    let reply = Matched text.now found.0 in (
      reply,
      replied widening labels items default (choice.Matched text) reply chosen (refl, found.1),
      found.2,
    )

-- the default is live
pub returns-in-Some-clause-reply : goal.returns-in-Some-clause-reply
returns-in-Some-clause-reply c =
    let widening = c.args.widening in
    let labels = labels_of c.args.self.now.cells.now in
    let items = c.args.list.now in
    let lang = c.in-Some.default.now in
    let By = λ (o : Option (Bor Lang)) (x : Choice). IsChosenIn widening labels items (option_map
    (λ l. l.now) o) x in
    let chosen = subst (λ (o : Option (Bor Lang)). By o choice.Default) c.in-Some.is
    (subst (By c.args.default) c.in-Default.is c.choose.ensures) in
    let found = found_live_label labels lang (found_in c.live_cell-in-Some.result)
    (rw c.as_str.ensures.text at c.live_cell-in-Some.ensures.found) chosen.1.0 in
    let reply = Default lang found.0 in
    let answer =
    replied widening labels items (Some lang) choice.Default reply chosen (refl, found.1) in (
      reply,
      subst (λ (o : Option (Bor Lang)). IsLookedUpIn widening labels items (option_map (λ l. l.now)
          o) reply) (sym c.in-Some.is) answer,
      found.2,
    )
