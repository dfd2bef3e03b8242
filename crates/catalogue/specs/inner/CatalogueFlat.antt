-- Inner maps, and what they have at a key.
use Rattle.std.specs.Prelude.{List, [], Option, Some, None}
use Rattle.std.specs.declared.cmp.Ordering.{Ordering}
use Rattle.std.specs.FinMap.Entries.{find}

-- what an inner map, if there is one, has at a key
abbrev pub found_in : {L J : Type 0} → (L → L → Ordering) → L → Option (List (L × J)) → Option J
found_in Q l None = None
found_in Q l (Some es) = find Q l es

-- the inner map, or an empty one
abbrev pub inner_of : {X : Type 0} → Option (List X) → List X
inner_of None = []
inner_of (Some es) = es
