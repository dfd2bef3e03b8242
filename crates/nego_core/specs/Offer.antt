-- What readers are offered (project rules).
use Rattle.std.specs.Prelude.{ℕ, ◌≡◌, ◌⊎◌, Bool, false, true, List, [], ◌∷◌, Option, Some, None}
use Rattle.std.specs.Prelude.{nat_lt, if◌then◌else◌}
use Rattle.lang_core.specs.Text.{pieces}
use Rattle.lang_core.specs.Lang.{tag_of}
use Rattle.lang_core.specs.Matching.{IsBeforeHyphen, is_basic_match, specificity}
use Rattle.list_core.specs.Item.{Item}
use Rattle.nego_core.specs.declared.offer.Offer.{Offer}
use Rattle.nego_core.specs.declared.offer.Offer.TheVariants.{All, Public, Listed}

-- of two items the one with more subtags other than "*", the first among equals
abbrev pub preferred : Item → Option Item → Item
preferred i None = i
preferred i (Some j) = if nat_lt (specificity (pieces i.range)) (specificity (pieces j.range))
    then j else i

-- the item that decides a tag under the basic match
abbrev pub decider : List Item → List (List ℕ) → Option Item
decider [] tag = None
decider (i ∷ items) tag = if is_basic_match (pieces i.range) tag
    then Some (preferred i (decider items tag)) else decider items tag

-- an item decides, and its weight is not 0
abbrev pub is_taken : Option Item → Bool
is_taken None = false
is_taken (Some i) = nat_lt 0 i.weight

-- a language without a tag, "@none", is offered; another where an item of positive weight decides
-- it
abbrev pub is_offered_by : List Item → Option (List ℕ) → Bool
is_offered_by items None = true
is_offered_by items (Some tag) = is_taken (decider items (pieces tag))

-- whether a list offers a language: RFC 4647 section 3.3.1 gives it, or it is "@none"
abbrev pub is_offered : List Item → List ℕ → Bool
is_offered items lang = is_offered_by items (tag_of lang)

-- the items of the field "*"
abbrev pub all_items : List Item
all_items = record { range = 42 ∷ []; weight = 1000; listed = None } ∷ []

-- the items of the field "*, x;q=0"
abbrev pub public_items : List Item
public_items =
    record { range = 42 ∷ []; weight = 1000; listed = None }
    ∷ record { range = 120 ∷ []; weight = 0; listed = None } ∷ []

-- the items by which is offered
abbrev pub items_of : Offer → List Item
items_of All = all_items
items_of Public = public_items
items_of (Listed list) = list.now

-- RFC 5646 section 2.1: the first subtag is "x"
abbrev pub IsPrivateUse : List ℕ → Type 0
IsPrivateUse text = (text ≡ 120 ∷ []) ⊎ IsBeforeHyphen (120 ∷ []) text
