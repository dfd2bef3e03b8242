-- The items of the offer of a question.
use Rattle.std.specs.Prelude.{List}
use Rattle.list_core.specs.Item.{Item}
use Rattle.nego_core.specs.Offer.{items_of}
use Rattle.front_core.specs.declared.offering.Held.{Held}
use Rattle.front_core.specs.declared.offering.Held.TheVariants.{Given, Read}

-- the items by which is offered
abbrev pub held_items : Held → List Item
held_items (Given offer) = items_of offer
held_items (Read list) = list
