use Rattle.std.proofs.Common.{sym, ◌∙◌}
use Rattle.list_core.proofs.IndexLemmas.{found_here, none_here, none_of_all}
use Rattle.list_core.proofs.indexed_items.first_place.Goals as goal

pub returns-then-is_range : goal.returns-then-is_range
returns-then-is_range c =
    found_here _ _ _ _ c.loop-place-test.true c.index-items-place.is
    (sym c.is_range.ensures ∙ c.if-is_range.true) c.loop-place.invariant

pub loop-place-preserved : goal.loop-place-preserved
loop-place-preserved c =
    none_here _ _ _ _ c.loop-place-test.true c.index-items-place.is
    (sym c.is_range.ensures ∙ c.if-is_range.false) c.loop-place.invariant

pub returns : goal.returns
returns c = none_of_all _ _ _ c.loop-place-test.false c.loop-place.invariant
