-- What readers are offered, as a question gets it (project rules).
use Rattle.std.specs.Prelude.{◌≡◌, ◌≤◌, ℕ, List, length}
use Rattle.list_core.specs.Field.{IsAccept, RefusesField}
use Rattle.list_core.specs.Item.{Item}
use Rattle.list_core.specs.declared.fault.NegoFault.{NegoFault}
use Rattle.list_core.specs.declared.field.Malformed.TheVariants.{Refused}
use Rattle.list_core.specs.declared.scheme.Scheme.TheVariants.{Basic}
use Rattle.nego_core.specs.Offer.{items_of}
use Rattle.front_core.specs.declared.offering.Offering.{Offering}
use Rattle.front_core.specs.declared.offering.Offering.TheVariants.{Given, Field}

-- an offer: its items, or the text of the field that has them
pub data Offers : Type 0 where
  Items : List Item → Offers
  Text : List ℕ → Offers

-- the offer that a question gets
abbrev pub offers_of : Offering → Offers
offers_of (Given offer) = Items (items_of offer)
offers_of (Field text) = Text text.now

-- the items of an offer: of a field those of an Accept-Language field (RFC 9110 section 12.5.4)
abbrev pub IsOffer : Offers → List Item → Type 0
IsOffer (Items given) items = items ≡ given
IsOffer (Text text) items = (length text ≤ 65535) × IsAccept text items

-- the offer has items
abbrev pub HasOffer : Offers → Type 0
HasOffer offers = (items : List Item) × IsOffer offers items

-- why the field is no list
abbrev pub RefusesOffer : Offers → NegoFault → Type 0
RefusesOffer (Items given) fault = ⊥
RefusesOffer (Text text) fault = RefusesField Basic Refused text fault
