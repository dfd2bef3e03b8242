-- Lists of entries in chunks.
use Rattle.std.specs.Prelude.{◌≡◌, ◌<◌, List, [], ◌∷◌, ◌++◌, length}
use Rattle.std.specs.declared.cmp.Ordering.{Ordering}
use Rattle.std.specs.declared.vec.Vec.{Vec}
use Rattle.cell_core.specs.declared.chunks.Chunks.{Chunks}
use Rattle.cell_core.specs.Keyed.{IsMap}

-- the entries of all chunks
abbrev pub all_of : {X Z : Type 0} → List (Vec X Z) → List X
all_of [] = []
all_of (c ∷ cs) = c.items ++ all_of cs

-- no chunk is empty
abbrev pub AllFilled : {X Z : Type 0} → List (Vec X Z) → Type 0
AllFilled [] = Unit {0}
AllFilled (c ∷ cs) = (0 < length c.items) × AllFilled cs

-- the chunks are filled, and their entries in order
pub record IsChunked {K J Z : Type 0} (cmp : K → K → Ordering) (cs : List (Vec (K × J) Z)) : Type 0
  where
    pub map : IsMap cmp (all_of cs)
    pub filled : AllFilled cs

-- the entries, in order
abbrev pub entries_of : {K J : Type 0} → Chunks K J → List (K × J)
entries_of chunks = all_of chunks.list.items

-- the chunks are filled, their entries in order, and so many as is counted
pub record IsKept {K J : Type 0} (cmp : K → K → Ordering) (chunks : Chunks K J) : Type 0 where
  pub chunked : IsChunked cmp chunks.list.items
  pub counted : chunks.count ≡ length (entries_of chunks)
