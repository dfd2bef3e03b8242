-- The entries that a map lacks, with the places where they go.
use Rattle.std.specs.Prelude.{◌≡◌, ℕ, ◌+◌, ◌≤◌, Bool, not, is_some, List, [], ◌∷◌, Option, Some}
use Rattle.std.specs.Prelude.{None, map}
use Rattle.std.specs.declared.cmp.Ordering.{Ordering}
use Rattle.std.specs.FinMap.Entries.{find, where_key}
use Rattle.cell_core.specs.Keyed.{IsMap}
use Rattle.cell_core.specs.inner.KeyedPlaces.{place_of, IsGap}

-- the first that is there
abbrev pub or_other : {J : Type 0} → Option J → Option J → Option J
or_other None b = b
or_other (Some x) b = Some x

-- the one that is there, joined to the other where both are
abbrev pub kept_joined : {J : Type 0} → (J → J → J) → Option J → Option J → Option J
kept_joined joined None b = None
kept_joined joined (Some x) None = Some x
kept_joined joined (Some x) (Some y) = Some (joined x y)

-- the entries alone
abbrev pub pairs_of : {K J : Type 0} → List (ℕ × (K × J)) → List (K × J)
pairs_of ms = map (λ m. m.1) ms

-- each goes to the place that is its number plus the shift `up`
abbrev pub AllGaps : {K J : Type 0} → (K → K → Ordering) → List (K × J) → ℕ → List (ℕ × (K × J))
    → Type 0
AllGaps cmp es up [] = Unit {0}
AllGaps cmp es up (m ∷ ms) = IsGap cmp m.1.0 es (m.0 + up) × AllGaps cmp es up ms

-- none goes to a place in front of this one
abbrev pub AllFrom : {K J : Type 0} → ℕ → List (ℕ × (K × J)) → Type 0
AllFrom n [] = Unit {0}
AllFrom n (m ∷ ms) = (n ≤ m.0) × AllFrom n ms

-- the map has not this key
abbrev pub is_new : {K J : Type 0} → (K → K → Ordering) → List (K × J) → K → Bool
is_new cmp es key = not (is_some (find cmp key es))

-- the values of common keys are joined, and the missing entries are those of the other map at its
-- other keys
pub record IsCommonJoined {K J : Type 0} (cmp : K → K → Ordering) (joined : J → J → J)
    (old other now : List (K × J)) (missing : List (ℕ × (K × J))) : Type 0 where
  pub map : IsMap cmp now
  pub same : (q : K) → place_of cmp q now ≡ place_of cmp q old
  pub at : (q : K) → find cmp q now ≡ kept_joined joined (find cmp q old) (find cmp q other)
  pub gaps : AllGaps cmp old 0 missing
  pub lacking : pairs_of missing ≡ where_key cmp (is_new cmp old) other
