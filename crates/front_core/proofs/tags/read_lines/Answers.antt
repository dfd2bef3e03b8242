use Rattle.std.proofs.Common.{◌≡◌, ◌∙◌, ap, false, rules, true}
use Rattle.std.proofs.lemmas.List.{map-append}
use Rattle.nego_core.specs.Offer.{is_offered, items_of}
use Rattle.front_core.specs.inner.TagFilter.{texts_of}
use Rattle.front_core.proofs.TagsLemmas.{read_on, read_over}
use Rattle.front_core.proofs.tags.read_lines.Goals as goal

pub loop-line-preserved-in-Continue-branch-5 : goal.loop-line-preserved-in-Continue-branch-5
loop-line-preserved-in-Continue-branch-5 c =
    let items = items_of c.args.offer in
    let offered : is_offered items c.in_ok-lang.lang ≡ true = search rules in
    read_on items _ _ _ _ _ _ _ _ _ c.in-Some.ensures.steps
    (ap texts_of c.in_ok-push.ensures.items ∙ map-append (λ name. name.now) _ _)
    c.in_ok-push-2.ensures.items offered c.loop-line.invariant c.in_ok-lang.ensures

pub loop-line-preserved-else-offers : goal.loop-line-preserved-else-offers
loop-line-preserved-else-offers c =
    let items = items_of c.args.offer in
    let lacks : is_offered items c.in_ok-lang.lang ≡ false = search rules in
    read_over items _ _ _ _ _ _ _ c.in-Some.ensures.steps lacks c.loop-line.invariant
    c.in_ok-lang.ensures

pub loop-line-preserved-else-offers-2 : goal.loop-line-preserved-else-offers-2
loop-line-preserved-else-offers-2 c =
    let items = items_of c.args.offer in
    let lacks : is_offered items c.in_ok-lang.lang ≡ false = search rules in
    read_over items _ _ _ _ _ _ _ c.in-Some.ensures.steps lacks c.loop-line.invariant
    c.in_ok-lang.ensures
