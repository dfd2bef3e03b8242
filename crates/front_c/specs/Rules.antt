-- What a publisher decides for all questions of readers (project rules).
use Rattle.std.specs.Prelude.{◌≡◌, ◌⊎◌, ◌∷◌, [], ℕ, List, codes, if◌then◌else◌}
use Rattle.std.specs.Str.{bytes_eq}
use Rattle.list_core.specs.Fallbacks.{RefusesTable}
use Rattle.list_core.specs.declared.fault.NegoFault.{NegoFault}
use Rattle.nego_core.specs.Offer.{all_items, public_items}
use Rattle.front_core.specs.Offering.{HasOffer, Items, Offers, RefusesOffer, Text}
use Rattle.front_core.specs.Preferences.{HasTable}
use Rattle.front_c.specs.declared.rules.Rules.{Rules}

-- what is offered: all languages but those of private use if the field has no bytes; all by "*",
-- which reads as just these items; and else what the field reads as
abbrev pub offer_of : List ℕ → Offers
offer_of [] = Items public_items
offer_of (byte ∷ bytes) =
    if bytes_eq (byte ∷ bytes) (codes "*") then Items all_items else Text (byte ∷ bytes)

-- what is offered under these rules
abbrev pub offered_by : Rules → Offers
offered_by rules = offer_of rules.offer.now

-- the rules have these texts, which read as an offer and as a table of fallbacks
abbrev pub AreRules : List ℕ → List ℕ → Rules → Type 0
AreRules offer table rules = HasOffer (offer_of offer) × HasTable table
    × (rules.offer.now ≡ offer) × (rules.fallbacks.now ≡ table)

-- why the texts make no rules: the offer is refused first, and then the table
abbrev pub RefusesRules : List ℕ → List ℕ → NegoFault → Type 0
RefusesRules offer table fault = RefusesOffer (offer_of offer) fault
    ⊎ (HasOffer (offer_of offer) × RefusesTable table fault)
