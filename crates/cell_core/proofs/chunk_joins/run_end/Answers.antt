use Rattle.std.proofs.Common.{◌-◌, length, arith, sym, ◌∙◌}
use Rattle.cell_core.proofs.Basics.{is_greater}
use Rattle.cell_core.proofs.KeyedPlacesLemmas.{place_of-le}
use Rattle.cell_core.proofs.KeyedWalkLemmas.{place_after}
use Rattle.cell_core.proofs.chunk_joins.run_end.Goals as goal

pub returns-then-is_gt : goal.returns-then-is_gt
returns-then-is_gt g c =
    let cmp = g.K.Ord.cmp in
    let bound = c.args.bound.now in
    let pairs = c.args.pairs.now in
    let greater = is_greater c.cmp.result (sym c.is_gt.ensures ∙ c.if-is_gt.true) in
    let after =
    place_after cmp g.met.K.Ord.total bound pairs (length pairs - 1) c.index-pairs-pairs.result
    c.requires.pairs (sym c.cmp.ensures ∙ greater) (omega arith) in
    omega (arith, after, place_of-le cmp bound pairs)
