-- What `Eq` asks of items.
use Rattle.std.specs.Cmp.{IsEquivalence, nat_eq_equiv, and_equiv, on_equiv}
use Rattle.std.specs.Cmp.Lexicographic.{on_texts_equal, lists_equiv, options_equiv}
use Rattle.std.specs.Cmp.Lexicographic.{nat_list_eq_equiv}
use Rattle.list_core.specs.Item.{Item, item_eq}

-- equality of items is an equivalence
pub item_equiv : IsEquivalence item_eq
item_equiv =
    and_equiv
    (and_equiv (on_texts_equal (λ (i : Item). i.range))
    (on_equiv (λ (i : Item). i.weight) nat_eq_equiv))
    (on_equiv (λ (i : Item). i.listed) (options_equiv (lists_equiv nat_list_eq_equiv)))
