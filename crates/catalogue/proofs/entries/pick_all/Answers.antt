use Rattle.std.proofs.Common.{◌≡◌, ◌<◌, sym, ◌∙◌, ap, [], ◌++◌, length, take, ◌+◌, arith}
use Rattle.std.specs.List.{cons_option}
use Rattle.catalogue.specs.Asking.{picked}
use Rattle.catalogue.specs.EntriesBorrowed.{weighed_of}
use Rattle.catalogue.specs.inner.EntriesBorrowed.{labelled_of}
use Rattle.catalogue.proofs.Basics.{append_nil, there}
use Rattle.catalogue.proofs.EntriesBorrowedLemmas.{weighed_push, picked_more}
use Rattle.catalogue.proofs.entries.pick_all.Goals as goal
use Rattle.catalogue.proofs.entries.pick_all.Goals.{in-Some+in-Some-pick_one+in_ok-push}
use Rattle.catalogue.proofs.entries.pick_all.Goals.{in-Some+in_default-pick_one, in_default}

-- The items are those of the picks so far: the label at this pick's place was pushed with its
-- weight, or the pick has no label there and adds nothing.
pub loop-place-preserved : goal.loop-place-preserved
loop-place-preserved c =
    let labels = labelled_of c.args.labels.now in
    let picks = c.args.picks.now in
    let place = c.loop-place.place in
    let front = picked labels (take place picks) in
    let lt : place < length picks =
    omega (arith, c.loop-place-test.true, c.len-place-end.ensures) in
    elim c.match-nth.branch as
    (λ _. weighed_of c.match-nth.items.items ≡ picked labels (take (place + 1) picks)) [
      | in-Some+in-Some-pick_one+in_ok-push w ↦
          ap (λ v. weighed_of v.items) w.items-is ∙ ap weighed_of w.in_ok-push.ensures.items
          ∙ weighed_push c.loop-place.items.items w.in-Some-pick_one.item
          ∙ (λ i. c.loop-place.invariant i ++ cons_option (w.in-Some-pick_one.ensures i) [])
          ∙ picked_more labels picks place w.in-Some.pick lt (sym w.in-Some.ensures)
      | in-Some+in_default-pick_one w ↦
          ap (λ v. weighed_of v.items) w.items-is ∙ c.loop-place.invariant ∙ sym (append_nil front)
          ∙ ap (λ o. front ++ cons_option o []) w.in_default-pick_one.ensures
          ∙ picked_more labels picks place w.in-Some.pick lt (sym w.in-Some.ensures)
      | in_default w ↦ absurd (there picks place lt (sym w.in_default.ensures))
    ]
