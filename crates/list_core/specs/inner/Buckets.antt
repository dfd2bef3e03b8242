-- The buckets of some subtags, and which items are in them.
use Rattle.std.specs.Prelude.{ℕ, ◌≡◌, ◌≢◌, ◌⊎◌, List, AllPairs, Contains, slice_index}
use Rattle.list_core.specs.Buckets.{subtag_bucket}
use Rattle.list_core.specs.declared.buckets.TheConstants.{LAST_BUCKET}

-- the bucket of one of these subtags
abbrev pub IsBucketOfOne : List (List ℕ) → ℕ → Type 0
IsBucketOfOne subtags bucket = (s : List ℕ) × Contains subtags s × (subtag_bucket s ≡ bucket)

-- the buckets of these subtags, each once
pub record AreBucketsOf (subtags : List (List ℕ)) (buckets : List ℕ) : Type 0 where
  pub each : (s : List ℕ) → Contains subtags s → Contains buckets (subtag_bucket s)
  pub only : (c : ℕ) → Contains buckets c → IsBucketOfOne subtags c
  pub once : AllPairs ◌≢◌ buckets

-- the item at the place is in the bucket
abbrev pub IsIn : List ℕ → ℕ → ℕ → Type 0
IsIn numbers bucket place = slice_index numbers place ≡ bucket

-- the item at the place is in one of these buckets, or in the last one
abbrev pub IsAmongBuckets : List ℕ → List ℕ → ℕ → Type 0
IsAmongBuckets numbers buckets place =
    IsIn numbers LAST_BUCKET place ⊎ Contains buckets (slice_index numbers place)
