use Rattle.std.proofs.Common.{sym, ◌∙◌, ap}
use Rattle.std.specs.FinMap.Entries.{find}
use Rattle.cell_core.specs.Entry.{text_cmp}
use Rattle.catalogue.specs.LiveMessages.{LiveMessage}
use Rattle.catalogue.proofs.LabelsLemmas.{label_of, find-live_of}
use Rattle.catalogue.proofs.messages.Message.label.Goals as goal

pub returns-in-Some : goal.returns-in-Some
returns-in-Some c =
    let lang = c.args.lang.now in
    let cells = c.self.inside.cells.now in
    c.label.ensures ∙ ap label_of c.in-Some.ensures.value
    ∙ sym (find-live_of lang cells c.in-Some.ensures.map)
    ∙ ap (λ (m : LiveMessage). find text_cmp lang m.1) c.self.view_is

pub returns-in-None : goal.returns-in-None
returns-in-None c =
    let lang = c.args.lang.now in
    let cells = c.self.inside.cells.now in
    ap label_of c.in-None.ensures.value ∙ sym (find-live_of lang cells c.in-None.ensures.map)
    ∙ ap (λ (m : LiveMessage). find text_cmp lang m.1) c.self.view_is
