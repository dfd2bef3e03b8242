use Rattle.std.proofs.Common.{◌∙◌, ◌++◌, ap}
use Rattle.catalogue.specs.ChangesLeft.{change_seen, changes_left}
use Rattle.query_docs.proofs.ChangesLemmas.{counted_any, listing_first, listing_last, listing_next}
use Rattle.query_docs.proofs.changes.changes_lines.Goals as goal

pub loop-change-init : goal.loop-change-init
loop-change-init c =
    listing_first c.args.before.now c.args.after.now c.in_ok-count.count c.in_ok-written.written
    (changes_left c.into_iter-change-iterator.result) (changes_left c.changes-change-items.result)
    c.changes-change-items.ensures (ap changes_left
    c.into_iter-change-iterator.ensures.into_iter_gives)
    (c.in_ok-written.ensures ∙ ap (λ t. t ++ c.as_str.result.now) c.new.ensures
    ∙ c.as_str.ensures.value ∙ c.in_ok-head.ensures.ok) c.in_ok-count.ensures

pub loop-change-preserved : goal.loop-change-preserved
loop-change-preserved c = λ changes are.
    listing_next changes (changes_left c.loop-change.change-iterator) (changes_left c.next.new.self)
    c.loop-change.written c.in_ok-written-2.written (change_seen c.in-Some.change)
    (c.loop-change.invariant changes are) c.in-Some.ensures.steps c.in_ok-written-2.ensures

pub returns : goal.returns
returns c =
    let changes = changes_left c.changes-change-items.result in
    let are = c.changes-change-items.ensures in (
      changes,
      are,
      listing_last changes (changes_left c.loop-change.change-iterator) c.loop-change.written
          c.into_doc.result (c.loop-change.invariant changes are) c.in-None.ensures.steps.0
          c.into_doc.ensures,
      counted_any changes c.in_ok-count.count (c.in_ok-count.ensures changes are),
    )
