-- There is one order of the items.
use Rattle.std.proofs.Common.{ℕ, ◌≡◌, List, sym, ◌∙◌, ap}
use Rattle.std.specs.declared.cmp.Ordering.TheVariants.{Equal}
use Rattle.std.specs.Cmp.{IsTotalOrder}
use Rattle.std.specs.List.{filter_map, slice_get}
use Rattle.std.proofs.lemmas.Cmp.{nat_cmp_total, on_total, then_total}
use Rattle.list_core.proofs.IndexUnique.{one_order, then_tied, nat_tied}
use Rattle.list_core.specs.Item.{Item}
use Rattle.list_core.specs.LookupOrder.{AreOrderKeys, IsOrder, order_key_cmp, order_keys_from}
use Rattle.list_core.specs.declared.lookup_order.OrderKey.{OrderKey}

-- The order of the keys, by missing weight and then by place, is total.
pub order_key_total : IsTotalOrder order_key_cmp
order_key_total =
    then_total (on_total (λ t. t.missing_weight) nat_cmp_total)
    (on_total (λ t. t.place) nat_cmp_total)

-- Keys that compare as equal are the same.
pub order_key_tied : (x y : OrderKey) → order_key_cmp x y ≡ Equal → x ≡ y
order_key_tied x y e =
    let parts = then_tied _ _ e in
    ap (λ (n : ℕ). record { missing_weight = n; place = x.place })
    (nat_tied x.missing_weight y.missing_weight parts.0)
    ∙ ap (λ (n : ℕ). record { missing_weight = y.missing_weight; place = n })
    (nat_tied x.place y.place parts.1)

-- The items have one order of keys.
pub one_keys : (items : List Item) (a b : List OrderKey) → AreOrderKeys items a
    → AreOrderKeys items b → a ≡ b
one_keys items a b o p =
    one_order order_key_cmp order_key_total order_key_tied (order_keys_from items 0) a b o.each_once
    o.ascending p.each_once p.ascending

-- A priority list has one order of lookup.
pub one_order_of : (items a b : List Item) → IsOrder items a → IsOrder items b → a ≡ b
one_order_of items a b o p =
    o.items_are
    ∙ (ap (filter_map (λ t. slice_get items t.place))
    (one_keys items o.keys p.keys o.keys_ok p.keys_ok)
    ∙ sym p.items_are)
