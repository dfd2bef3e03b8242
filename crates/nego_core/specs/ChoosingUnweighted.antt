use Rattle.std.specs.Prelude.{ℕ, ◌≡◌, not, Bool, IsTrue, List, Option, All, Any, IsSomeAnd}
use Rattle.std.specs.Prelude.{filter}
use Rattle.std.specs.List.{slice_get}
use Rattle.lang_core.specs.Text.{pieces, joined}
use Rattle.lang_core.specs.Lang.{tag_of}
use Rattle.lang_core.specs.Matching.{as_basic, is_lone_star}
use Rattle.list_core.specs.Item.{Item}
use Rattle.list_core.specs.Deciding.{Matches}
use Rattle.nego_core.specs.Choosing.{MatchFirstOf, all_candidates}
use Rattle.list_core.specs.declared.scheme.Scheme.{Scheme}

-- What RFC 4647 says where no project rule applies: of lists without a weight 0, and without
-- weights.

-- no weight was written, so each is 1000
abbrev pub AllUnweighted : List Item → Type 0
AllUnweighted items = All (λ i. i.weight ≡ 1000) items

-- some range of the list matches the tag
abbrev pub MatchesSome : Scheme → List Item → List ℕ → Type 0
MatchesSome scheme items tag = Any (λ i. Matches scheme (pieces i.range) (pieces tag)) items

-- RFC 4647 section 3.3: at the place is a tag that some range of the list matches
abbrev pub IsMatchedAt : Scheme → List Item → List (List ℕ) → ℕ → Type 0
IsMatchedAt scheme items langs place =
    IsSomeAnd (slice_get langs place) (λ lang. IsSomeAnd (tag_of lang) (MatchesSome scheme items))

-- whether a range is other than "*" as a basic one
abbrev pub is_other : Item → Bool
is_other i = not (is_lone_star (as_basic (pieces i.range)))

-- RFC 4647 section 3.4: of the ranges other than "*", as written, each through its truncations,
-- the first text that is held, or none where none is
abbrev pub IsFirstHeld : List Item → (List ℕ → Bool) → Option (List (List ℕ)) → Type 0
IsFirstHeld items held found =
    MatchFirstOf (λ c. IsTrue (held (joined c))) (all_candidates (filter is_other items)) found
