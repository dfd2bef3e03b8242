-- Lists of entries in ascending order of their keys, seen as maps: how they agree and join.
use Rattle.std.specs.Prelude.{◌≡◌, cond, ◌&&◌, T, ◌⊎◌, List, [], ◌∷◌, Option}
use Rattle.std.specs.Prelude.{Some, None}
use Rattle.std.specs.declared.cmp.Ordering.{Ordering}
use Rattle.std.specs.FinMap.Entries.{find, put, is_sorted}

-- ---- of values that may be absent

-- two that may be absent agree where both are there and do
abbrev pub AgreeIfBoth : {J : Type 0} → (J → J → Type 0) → Option J → Option J → Type 0
AgreeIfBoth agree None b = Unit {0}
AgreeIfBoth agree (Some x) None = Unit {0}
AgreeIfBoth agree (Some x) (Some y) = agree x y

-- the one that is there, or both joined
abbrev pub joined_if_both : {J : Type 0} → (J → J → J) → Option J → Option J → Option J
joined_if_both joined None b = b
joined_if_both joined (Some x) None = Some x
joined_if_both joined (Some x) (Some y) = Some (joined x y)

-- one that only the first has stays, one that only the third has may be there, and one that both
-- have lies between
abbrev pub BetweenIfBoth : {J : Type 0} → (J → J → J → Type 0) → Option J → Option J → Option J
    → Type 0
BetweenIfBoth between None None b = Unit {0}
BetweenIfBoth between None (Some x) b = b ≡ Some x
BetweenIfBoth between (Some a) None b = ⊥
BetweenIfBoth between (Some a) (Some x) None = x ≡ a
BetweenIfBoth between (Some a) (Some x) (Some b) = between a x b

-- ---- of lists of entries

-- the value of a key that one has, joined to what the other has at it
abbrev pub joined_at : {J : Type 0} → (J → J → J) → Option J → J → J
joined_at joined None y = y
joined_at joined (Some x) y = joined x y

module _ {K J : Type 0} (cmp : K → K → Ordering) where
  -- the keys strictly ascend, so that no key comes twice
  abbrev pub IsMap : List (K × J) → Type 0
  IsMap es = T (is_sorted cmp es)

  -- at each key of either, the one value or the two joined
  abbrev pub joined_entries : (J → J → J) → List (K × J) → List (K × J) → List (K × J)
  joined_entries joined xs [] = xs
  joined_entries joined xs (e ∷ ys) =
      put cmp e.0 (joined_at joined (find cmp e.0 xs) e.1) (joined_entries joined xs ys)

  -- the same; of lists that are no maps the first
  abbrev pub joined_maps : (J → J → J) → List (K × J) → List (K × J) → List (K × J)
  joined_maps joined xs ys =
      cond (is_sorted cmp xs && is_sorted cmp ys) (joined_entries joined xs ys) xs

  -- two maps that agree at each key that both have
  pub record AgreeAtKeys (agree : J → J → Type 0) (xs ys : List (K × J)) : Type 0 where
    pub first : IsMap xs
    pub second : IsMap ys
    pub at : (q : K) → AgreeIfBoth agree (find cmp q xs) (find cmp q ys)

  -- the same; a list that is no map agrees with itself alone
  abbrev pub AgreeMaps : (J → J → Type 0) → List (K × J) → List (K × J) → Type 0
  AgreeMaps agree xs ys = (xs ≡ ys) ⊎ AgreeAtKeys agree xs ys

  -- a map that has at each key of either the one value or the two joined
  pub record IsJoinedWith (joined : J → J → J) (xs ys zs : List (K × J)) : Type 0 where
    pub map : IsMap zs
    pub at : (q : K) → find cmp q zs ≡ joined_if_both joined (find cmp q xs) (find cmp q ys)

  -- a map on the way from the first to its join with the last: it has the first's keys and some of
  -- the last's
  pub record BetweenAtKeys (between : J → J → J → Type 0) (xs zs ys : List (K × J)) : Type 0 where
    pub first : IsMap xs
    pub middle : IsMap zs
    pub last : IsMap ys
    pub at : (q : K) → BetweenIfBoth between (find cmp q xs) (find cmp q zs) (find cmp q ys)

  -- the same; a list that is no map may only stay as it is
  abbrev pub BetweenMaps : (J → J → J → Type 0) → List (K × J) → List (K × J) → List (K × J)
      → Type 0
  BetweenMaps between xs zs ys = (zs ≡ xs) ⊎ BetweenAtKeys between xs zs ys
