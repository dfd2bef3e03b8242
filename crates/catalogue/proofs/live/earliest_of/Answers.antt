use Rattle.nego_core.specs.Offer.{items_of}
use Rattle.catalogue.specs.Labels.{labels_left}
use Rattle.catalogue.proofs.LiveLanguagesLemmas.{all_before, next_before, none_before}
use Rattle.catalogue.proofs.live.earliest_of.Goals as goal

pub loop-lang-init : goal.loop-lang-init
loop-lang-init c =
    rw c.into_iter-lang-iterator.ensures.into_iter_gives
    (none_before c.args.ranges.now.scheme c.args.ranges.now.list.now (items_of c.args.offer)
    (labels_left c.args.labels))

pub loop-lang-preserved : goal.loop-lang-preserved
loop-lang-preserved c =
    next_before c.args.ranges.now.scheme c.args.ranges.now.list.now (items_of c.args.offer)
    (labels_left c.args.labels) (labels_left c.loop-lang.lang-iterator)
    (c.in-Some.lang.now, c.in-Some._label.now) _ c.loop-lang.earliest c.earlier_of-earliest.result
    c.loop-lang.invariant c.in-Some.ensures.steps c.earlier_of-earliest.ensures

pub returns : goal.returns
returns c =
    all_before c.args.ranges.now.scheme c.args.ranges.now.list.now (items_of c.args.offer)
    (labels_left c.args.labels) (labels_left c.loop-lang.lang-iterator) c.loop-lang.earliest
    c.loop-lang.invariant c.in-None.ensures.steps.0
