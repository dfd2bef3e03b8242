-- The texts that lookup tries for an item.
use Rattle.std.specs.Prelude.{ℕ, List, Option, Some, None, map, string_bytes}
use Rattle.lang_core.specs.Text.{pieces}
use Rattle.lang_core.specs.Matching.{as_basic}
use Rattle.lang_core.specs.TruncationsCandidates.{candidates}
use Rattle.lang_core.specs.Truncations.{truncations_left}
use Rattle.list_core.specs.Item.{Item}
use Rattle.list_core.specs.declared.candidates.Candidates.{Candidates}
use Rattle.list_core.specs.declared.candidates.Candidates.TheVariants.{Truncated, Listed}

-- the candidates of an item: those that a table of fallbacks lists for its range, or else the range
-- itself, taken as a basic one, and its truncations (RFC 4647 sections 3.2 and 3.4)
abbrev pub candidates_of : Item → List (List (List ℕ))
candidates_of i = of_listed i.listed where
  of_listed : Option (List (List ℕ)) → List (List (List ℕ))
  of_listed None = candidates (as_basic (pieces i.range))
  of_listed (Some texts) = map pieces texts

-- the candidates that are still to come
abbrev pub candidates_left : Candidates → List (List (List ℕ))
candidates_left (Truncated texts) = truncations_left texts
candidates_left (Listed texts) = map pieces (map string_bytes texts.now)
