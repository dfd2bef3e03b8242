use Rattle.std.proofs.Common.{arith, sym, ◌∙◌}
use Rattle.list_core.proofs.IndexLemmas.{position_above, position_below}
use Rattle.list_core.proofs.index.position_of.Goals as goal

pub loop-low-preserved-then-is_below : goal.loop-low-preserved-then-is_below
loop-low-preserved-then-is_below c =
    position_above _ _ _ _ _ _ c.requires c.loop-low.invariant (omega arith)
    (sym c.is_below.ensures ∙ c.if-is_below.true)

pub loop-low-preserved : goal.loop-low-preserved
loop-low-preserved c =
    position_below _ _ _ _ _ _ c.requires c.loop-low.invariant (omega arith) (omega arith)
    (sym c.is_below.ensures ∙ c.if-is_below.false)
