use Rattle.std.specs.Prelude.{ℕ, ◌≡◌, ◌+◌, ◌-◌, ◌==◌, ◌&&◌, not, Bool, List, [], ◌∷◌, IsSorted}
use Rattle.std.specs.Prelude.{IsPermutation, if◌then◌else◌}
use Rattle.std.specs.List.{slice_get, filter_map}
use Rattle.std.specs.declared.cmp.Ordering.{Ordering}
use Rattle.std.specs.Ordering.{nat_cmp, on, then_cmp}
use Rattle.lang_core.specs.Text.{pieces}
use Rattle.lang_core.specs.Matching.{as_basic, is_lone_star}
use Rattle.list_core.specs.Item.{Item}
use Rattle.list_core.specs.declared.lookup_order.OrderKey.{OrderKey}

-- whether lookup tries the item: it has a positive weight, and is not "*" as a basic range (RFC
-- 4647 sections 3.2 and 3.4)
abbrev pub is_tried : Item → Bool
is_tried i = not (i.weight == 0) && not (is_lone_star (as_basic (pieces i.range)))

-- by weight downwards, then by place
abbrev pub order_key_cmp : OrderKey → OrderKey → Ordering
order_key_cmp = then_cmp (on (λ t. t.missing_weight) nat_cmp) (on (λ t. t.place) nat_cmp)

-- the keys of the items that are tried, from a place on
abbrev pub order_keys_from : List Item → ℕ → List OrderKey
order_keys_from [] place = []
order_keys_from (i ∷ items) place = if is_tried i then
    record { missing_weight = 1000 - i.weight; place = place }
    ∷ order_keys_from items (place + 1) else order_keys_from items (place + 1)

-- each key once, in order
pub record AreOrderKeys (items : List Item) (keys : List OrderKey) : Type 0 where
  pub each_once : IsPermutation (order_keys_from items 0) keys
  pub ascending : IsSorted order_key_cmp keys

-- The items that are tried, by weight downwards, then by place (project rule).
pub record IsOrder (items ordered : List Item) : Type 0 where
  pub keys : List OrderKey
  pub keys_ok : AreOrderKeys items keys
  pub items_are : ordered ≡ filter_map (λ t. slice_get items t.place) keys
