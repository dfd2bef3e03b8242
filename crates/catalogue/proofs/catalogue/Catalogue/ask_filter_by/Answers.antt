use Rattle.std.proofs.Common.{◌≡◌, ◌∙◌, ap, subst, sym}
use Rattle.std.proofs.lemmas.Result.{IfOk-weaker}
use Rattle.nego_core.specs.Filtering.{IsFiltered, texts_of}
use Rattle.nego_core.specs.Offer.{items_of}
use Rattle.catalogue.specs.Live.{live, languages}
use Rattle.catalogue.specs.inner.EntriesBorrowed.{labelled_of}
use Rattle.catalogue.specs.Asking.{picked, IsFilterAnswer}
use Rattle.catalogue.specs.EntriesOffered.{offered_cells, offered_labels}
use Rattle.catalogue.proofs.EntriesOfferedLemmas.{live_offered}
use Rattle.catalogue.proofs.catalogue.Catalogue.ask_filter_by.Goals as goal

-- The answer is that of the filter over the message's live labels: the languages filtered are
-- theirs, and each pick was replaced by the label at its place.
pub returns-in-Ok : goal.returns-in-Ok
returns-in-Ok c =
    let offer = items_of c.args.offer in
    let cells = offered_cells offer c.args.self.now in
    let id = c.args.id.now in
    let scheme = c.args.scheme in
    let items = c.args.list.now in
    let picks = c.in-Ok.picks in
    let labels_are : labelled_of c.in_ok-labels.labels.items ≡ live cells id =
    c.in_ok-labels.ensures ∙ (ap (offered_labels offer) c.labels.ensures
    ∙ sym (live_offered offer c.args.self.now id)) in
    let langs_are : texts_of c.deref-2.result.now ≡ languages (live cells id) =
    ap texts_of c.deref-2.ensures.value ∙ c.in_ok-langs.ensures
    ∙ ap (λ xs. languages (labelled_of xs)) c.deref.ensures.value ∙ ap languages labels_are in
    IfOk-weaker c.pick_all.result
    (λ entries. entries ≡ picked (labelled_of c.deref-in-Ok.result.now) picks)
    (IsFilterAnswer cells id scheme items)
    (λ entries is. record {
      picks = picks;
      filtered = subst (λ langs. IsFiltered scheme items langs picks) langs_are c.in-Ok.ensures;
      answer_is =
          is ∙ ap (λ xs. picked (labelled_of xs) picks) c.deref-in-Ok.ensures.value
          ∙ ap (λ labels. picked labels picks) labels_are;
    })
    c.pick_all.ensures
