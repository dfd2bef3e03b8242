use Rattle.std.proofs.Common.{◌∙◌, sym, subst}
use Rattle.std.specs.List.Sorted.{IsStrictlySortedBy}
use Rattle.std.specs.Map.{keys_of}
use Rattle.map_docs.proofs.AscendingMapLemmas.{inserted_at_end, sorted_at_end}
use Rattle.map_docs.proofs.ascending_map.add_to_list.Goals as goal

pub returns-then-is_above_all-clause-entries : goal.returns-then-is_above_all-clause-entries
returns-then-is_above_all-clause-entries g c =
    c.in_ok-push.ensures.items
    ∙ sym (inserted_at_end g.met.K.Ord.total c.args.list.items c.args.key c.args.value
    (c.is_above_all.ensures c.if-is_above_all.true))

pub returns-then-is_above_all-clause-sorted : goal.returns-then-is_above_all-clause-sorted
returns-then-is_above_all-clause-sorted g c =
    subst (λ es. IsStrictlySortedBy g.K.Ord.cmp (keys_of es)) (sym c.in_ok-push.ensures.items)
    (sorted_at_end g.met.K.Ord.total c.args.list.items c.args.key c.args.value c.requires
    (c.is_above_all.ensures c.if-is_above_all.true))
