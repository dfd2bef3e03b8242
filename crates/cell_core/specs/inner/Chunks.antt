-- The chunk of a key, and its place there.
use Rattle.std.specs.Prelude.{◌≡◌, ℕ, suc, ◌<◌, T, List, length, take, drop, Some, slice_index_or}
use Rattle.std.specs.declared.cmp.Ordering.{Ordering}
use Rattle.std.specs.FinMap.Entries.{find, below_all}
use Rattle.std.specs.declared.vec.Vec.{Vec}
use Rattle.cell_core.specs.inner.KeyedPlaces.{place_of, IsPlace}
use Rattle.cell_core.specs.Chunks.{all_of}

-- the keys of the chunks before it are lesser, and those of the chunks after it greater
pub record IsChunkFor {K J Z : Type 0} (cmp : K → K → Ordering) (key : K)
    (cs : List (Vec (K × J) Z)) (at : ℕ) : Type 0 where
  pub in_range : at < length cs
  pub front : place_of cmp key (all_of (take at cs)) ≡ length (all_of (take at cs))
  pub back : T (below_all cmp key (all_of (drop (suc at) cs)))

-- the key is in this chunk, at this place
pub record IsPlaceIn {K J Z : Type 0} (cmp : K → K → Ordering) (key : K)
    (cs : List (Vec (K × J) Z)) (at place : ℕ) : Type 0 where
  pub fits : IsChunkFor cmp key cs at
  pub there : (d : Vec (K × J) Z) → let c = slice_index_or cs at d in IsPlace cmp key c.items place

-- each of the entries goes to this chunk
pub record IsRunFor {K J Z : Type 0} (cmp : K → K → Ordering) (es : List (K × J))
    (cs : List (Vec (K × J) Z)) (at : ℕ) : Type 0 where
  pub in_range : at < length cs
  pub fits : (q : K) (v : J) → find cmp q es ≡ Some v → IsChunkFor cmp q cs at
