-- Where in the order of lookup an item is first tried that fits.
use Rattle.std.specs.Prelude.{ℕ, ◌≡◌, ◌≤◌, ◌<◌, List, Option, Some, length, slice_index}
use Rattle.std.specs.List.{slice_get}
use Rattle.std.specs.Option.{option_and_then}
use Rattle.list_core.specs.Item.{Item}
use Rattle.list_core.specs.Index.{IsFirstWith}
use Rattle.list_core.specs.declared.lookup_order.OrderKey.{OrderKey}

-- the item of the key at a place of the order
abbrev pub item_tried : List Item → List OrderKey → ℕ → Option Item
item_tried items keys n = option_and_then (λ k. slice_get items k.place) (slice_get keys n)

-- the first place of the order whose item fits, or the number of keys where none does
pub record IsFirstTried (Fits : Item → Type 0) (items : List Item) (keys : List OrderKey) (n : ℕ)
    : Type 0 where
  pub within : n ≤ length keys
  pub none_before : (m : ℕ) (i : Item) → m < n → item_tried items keys m ≡ Some i → ¬ Fits i
  pub fits : n < length keys → (i : Item) × (item_tried items keys n ≡ Some i) × Fits i

-- at the place of the first item with a text, where in the order a range of this text is first
-- tried
abbrev pub AreFirstTried : List Item → List OrderKey → List ℕ → Type 0
AreFirstTried items keys firsts =
    (length firsts ≡ length items)
    × ((text : List ℕ) (place : ℕ) → IsFirstWith items text place
    → IsFirstTried (λ i. i.range ≡ text) items keys (slice_index firsts place))

-- the same, or nothing at all
abbrev pub AreFirstsIfAny : List Item → List OrderKey → List ℕ → Type 0
AreFirstsIfAny items keys firsts = 0 < length firsts → AreFirstTried items keys firsts
