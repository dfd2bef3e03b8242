use Rattle.std.proofs.Common.{◌∙◌, ◌++◌, List, ap, false, refl, subst, sym, true}
use Rattle.cell_core.proofs.KeyedAboveLemmas.{on_ok_then}
use Rattle.catalogue.proofs.Basics.{append_nil}
use Rattle.map_docs.specs.Maps.{Labelled}
use Rattle.query_docs.specs.inner.ByMessage.{cells_of}
use Rattle.query_docs.specs.inner.Draft.{HasWritten}
use Rattle.query_docs.proofs.ChosenLemmas.{chosen_or_none, has_more}
use Rattle.query_docs.proofs.chosen.ChosenLabelsMessageSink.see_message.Goals as goal

-- all labels of the message were written
pub returns-then-is_chosen : goal.returns-then-is_chosen
returns-then-is_chosen c =
    let self = c.args.self.now in
    let id = c.args.id.now in
    let cells = c.args.cells.now in
    let all = chosen_or_none self.messages id cells true
    (sym c.if-is_chosen.true ∙ c.is_chosen.ensures id) in
    on_ok_then c.add_all.result
    (λ adds first before has next.
    has_more first self _ before (cells_of id cells) refl
    (λ labels written. subst (HasWritten c.add_all.new.draft)
    (ap (λ (ls : List Labelled). labels ++ ls) (sym all)) (adds labels written)) has next)
    c.add_all.ensures

-- none was written
pub returns-else-is_chosen : goal.returns-else-is_chosen
returns-else-is_chosen c = λ first before has next.
    let self = c.args.self.now in
    let id = c.args.id.now in
    let cells = c.args.cells.now in
    let none = chosen_or_none self.messages id cells false
    (sym c.if-is_chosen.false ∙ c.is_chosen.ensures id) in
    has_more first self self before (cells_of id cells) refl
    (λ labels written. subst (HasWritten self.draft)
    (sym (ap (λ (ls : List Labelled). labels ++ ls) none ∙ append_nil labels)) written) has next
