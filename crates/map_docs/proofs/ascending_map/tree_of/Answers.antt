use Rattle.std.proofs.Common.{◌∙◌, ◌∷◌, ◌++◌, [], sym, ap, subst, append_assoc}
use Rattle.std.specs.List.Sorted.{IsStrictlySortedBy}
use Rattle.std.specs.Map.{keys_of}
use Rattle.std.specs.Vec.Iter.{into_iter_items}
use Rattle.map_docs.proofs.AscendingMapLemmas.{above_front, inserted_at_end}
use Rattle.map_docs.proofs.ascending_map.tree_of.Goals as goal

pub loop-key-preserved : goal.loop-key-preserved
loop-key-preserved g c =
    let before = c.loop-key.found.entries in
    let key = c.in-Some.key in
    let value = c.in-Some.value in
    let left = into_iter_items c.next.new.self in
    let cut = sym c.loop-key.invariant ∙ ap (λ es. before ++ es) c.in-Some.ensures.steps.0 in
    let above =
    above_front g.met.K.Ord.total before (key, value) left
    (subst (λ es. IsStrictlySortedBy g.K.Ord.cmp (keys_of es)) cut c.requires) in
    ap (λ es. es ++ left)
    (c.in_ok-insert.ensures.entries ∙ inserted_at_end g.met.K.Ord.total before key value above)
    ∙ append_assoc before ((key, value) ∷ []) left
    ∙ sym cut
