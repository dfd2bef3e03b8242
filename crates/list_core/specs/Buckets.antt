use Rattle.std.specs.Prelude.{ℕ, ◌≡◌, ◌≢◌, ◌≤◌, ◌<◌, ◌+◌, ◌%◌, ◌⊎◌, false, List, length, Some}
use Rattle.std.specs.Prelude.{Contains, slice_index}
use Rattle.std.specs.List.{slice_get}
use Rattle.lang_core.specs.Text.{pieces}
use Rattle.lang_core.specs.Grammar.{is_star}
use Rattle.list_core.specs.Item.{Item}
use Rattle.list_core.specs.Fingerprint.{fingerprint_of}
use Rattle.list_core.specs.declared.buckets.Buckets.{Buckets}
use Rattle.list_core.specs.declared.buckets.TheConstants.{LAST_BUCKET, BUCKET_COUNT}

-- the bucket of a subtag, one of those before the last
abbrev pub subtag_bucket : List ℕ → ℕ
subtag_bucket subtag = fingerprint_of subtag % LAST_BUCKET

-- A range may be in the bucket of each of its subtags other than "*", and in the last one.
abbrev pub MayBeIn : List (List ℕ) → ℕ → Type 0
MayBeIn range bucket =
    (bucket ≡ LAST_BUCKET)
    ⊎ ((s : List ℕ) × Contains range s × (is_star s ≡ false) × (subtag_bucket s ≡ bucket))

-- a bucket in which the range at each of the first n places may be
pub record AreNumbers (items : List Item) (n : ℕ) (numbers : List ℕ) : Type 0 where
  pub as_many : length numbers ≡ n
  pub within : (k : ℕ) → k < n → slice_index numbers k < BUCKET_COUNT
  pub may : (k : ℕ) (i : Item) → k < n → slice_get items k ≡ Some i
      → MayBeIn (pieces i.range) (slice_index numbers k)

-- the first place of a bucket from one on, or the number of places where there is none
pub record IsNextIn (numbers : List ℕ) (bucket from place : ℕ) : Type 0 where
  pub after : from ≤ place
  pub within : place ≤ length numbers
  pub none_between : (k : ℕ) → from ≤ k → k < place → slice_index numbers k ≢ bucket
  pub stands : place < length numbers → slice_index numbers place ≡ bucket

-- the first place of each bucket from one on, and after each place from there on the next of its
-- bucket
pub record AreLinksFrom (buckets : ℕ) (numbers : List ℕ) (from : ℕ) (first next : List ℕ) : Type 0
  where
    pub many : length first ≡ buckets
    pub each : length next ≡ length numbers
    pub first_is : (c : ℕ) → c < buckets → IsNextIn numbers c from (slice_index first c)
    pub next_is : (k : ℕ) → from ≤ k → k < length numbers
        → IsNextIn numbers (slice_index numbers k) (k + 1) (slice_index next k)

-- the same for all places, in so many buckets
abbrev pub AreLinks : ℕ → List ℕ → Buckets → Type 0
AreLinks many numbers buckets = AreLinksFrom many numbers 0 buckets.first.items buckets.next.items

-- the items are in buckets of these numbers
pub record AreLinked (items : List Item) (numbers : List ℕ) (buckets : Buckets) : Type 0 where
  pub numbers_ok : AreNumbers items (length items) numbers
  pub links_ok : AreLinks BUCKET_COUNT numbers buckets

-- each item is in a bucket in which its range may be
abbrev pub AreSubtagBuckets : List Item → Buckets → Type 0
AreSubtagBuckets items buckets = (numbers : List ℕ) × AreLinked items numbers buckets
