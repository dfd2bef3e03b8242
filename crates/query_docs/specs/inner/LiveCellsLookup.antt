-- The labels that are answered, each with its message.
use Rattle.std.specs.Prelude.{◌≡◌, ◌++◌, ℕ, List, [], ◌∷◌, Option, option_map, option_to_list}
use Rattle.list_core.specs.Item.{Item}
use Rattle.nego_core.specs.declared.widening.Widening.{Widening}
use Rattle.catalogue.specs.Asking.{IsLookedUpIn}
use Rattle.catalogue.specs.LiveMessages.{LiveMessage}
use Rattle.catalogue.specs.declared.reply.Reply.{Reply}
use Rattle.map_docs.specs.Maps.{Labelled}
use Rattle.query_docs.specs.LiveCellsLookup.{answered}

-- the language that was answered, with its label and its message
abbrev pub answered_of : List ℕ → Option (List ℕ × List (List ℕ)) → List Labelled
answered_of id found = option_to_list (option_map (λ p. ((id, p.0), p.1)) found)

-- the labels that are answered for these messages
abbrev pub LooksUp : Widening → List Item → Option (List ℕ) → List LiveMessage → List Labelled
    → Type 0
LooksUp widening items default [] labels = labels ≡ []
LooksUp widening items default (m ∷ ms) labels =
    (reply : Reply) × (rest : List Labelled) × IsLookedUpIn widening m.1 items default reply
    × LooksUp widening items default ms rest
    × (labels ≡ answered_of m.0 (answered reply) ++ rest)
