use Rattle.std.proofs.Common.{◌≡◌, ◌==◌, ◌∙◌, ◌++◌, [], List, ap, length, subst, sym, true≢false}
use Rattle.cell_core.proofs.KeyedAboveLemmas.{on_ok_then}
use Rattle.catalogue.specs.Asking.{IsLookedUpIn}
use Rattle.catalogue.specs.Live.{Labelled}
use Rattle.catalogue.proofs.Basics.{append_nil}
use Rattle.query_docs.specs.inner.BundleByMessage.{default_of}
use Rattle.query_docs.specs.inner.ByMessage.{cells_of}
use Rattle.query_docs.specs.inner.Draft.{HasWritten}
use Rattle.query_docs.specs.inner.LiveCells.{found_in, labels_of}
use Rattle.query_docs.specs.inner.LiveCellsLookup.{answered_of}
use Rattle.query_docs.specs.declared.by_message.MessageCell.{MessageCell}
use Rattle.query_docs.proofs.BundleByMessageLemmas.{bundled_more, own_id}
use Rattle.query_docs.proofs.LiveCellsLemmas.{labelled_answer, own_live}
use Rattle.query_docs.proofs.bundle_by_message.BundleMessageSink.see_message.Goals as goal

-- the label that was answered is written
pub returns-in-Some : goal.returns-in-Some
returns-in-Some c =
    let self = c.args.self.now in
    let id = c.args.id.now in
    let cells = cells_of id c.args.cells.now in
    let reply = c.look_up.ensures.reply in
    let some : c.args.cells.now ≡ [] → ⊥ = λ none. true≢false (sym (sym c.if-is_empty.false
    ∙ c.is_empty.ensures ∙ ap (λ (cs : List MessageCell). length cs == 0) none)) in
    let answer = subst (λ (labels : Labelled). IsLookedUpIn self.widening labels self.list.now
    (default_of self) reply.0) (sym (own_live id c.args.cells.now))
    (subst (λ (cs : List MessageCell). IsLookedUpIn self.widening (labels_of cs) self.list.now
    (default_of self) reply.0) c.new-live.ensures reply.1) in
    on_ok_then c.add_seen.result
    (λ adds first before has next.
    bundled_more first self c.add_seen.new.self before cells id reply.0 next
    (own_id id next.id c.args.cells.now some next.own) answer
    (λ labels written. subst (λ ls. HasWritten c.add_seen.new.self (labels ++ ls))
    (labelled_answer id c.in-Some.cell.now reply.0 (sym (ap found_in c.in-Some.is) ∙ reply.2))
    (adds labels written)) has)
    c.add_seen.ensures

-- nothing is answered, and so nothing written
pub returns-in-None : goal.returns-in-None
returns-in-None c = λ first before has next.
    let self = c.args.self.now in
    let id = c.args.id.now in
    let cells = cells_of id c.args.cells.now in
    let reply = c.look_up.ensures.reply in
    let some : c.args.cells.now ≡ [] → ⊥ = λ none. true≢false (sym (sym c.if-is_empty.false
    ∙ c.is_empty.ensures ∙ ap (λ (cs : List MessageCell). length cs == 0) none)) in
    let answer = subst (λ (labels : Labelled). IsLookedUpIn self.widening labels self.list.now
    (default_of self) reply.0) (sym (own_live id c.args.cells.now))
    (subst (λ (cs : List MessageCell). IsLookedUpIn self.widening (labels_of cs) self.list.now
    (default_of self) reply.0) c.new-live.ensures reply.1) in
    bundled_more first self self.draft before cells id reply.0 next
    (own_id id next.id c.args.cells.now some next.own) answer
    (λ labels written. subst (λ o. HasWritten self.draft (labels ++ answered_of id o))
    (sym (ap found_in c.in-None.is) ∙ reply.2)
    (subst (HasWritten self.draft) (sym (append_nil labels)) written)) has
