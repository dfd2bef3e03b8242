use Rattle.std.specs.Prelude.{ℕ, ◌≡◌, ◌≢◌, ◌<◌, List, [], Some, unwrap_or, option_map, length, All}
use Rattle.std.specs.Prelude.{Contains, IsSorted}
use Rattle.std.specs.List.{slice_get}
use Rattle.std.specs.declared.cmp.Ordering.{Ordering}
use Rattle.std.specs.Ordering.{nat_cmp, on, then_cmp}
use Rattle.std.specs.Cmp.Lexicographic.{slice_cmp}
use Rattle.list_core.specs.Item.{Item}
use Rattle.list_core.specs.Buckets.{AreSubtagBuckets}
use Rattle.list_core.specs.HashedRanges.{AreTextBuckets}
use Rattle.list_core.specs.declared.index.Index.{Index}
use Rattle.list_core.specs.declared.index.Index.TheVariants as index

-- the text of the range at a place
abbrev pub text_at : List Item → ℕ → List ℕ
text_at items place = unwrap_or (option_map (λ i. i.range) (slice_get items place)) []

-- by the bytes of the ranges, then by place
abbrev pub place_cmp : List Item → ℕ → ℕ → Ordering
place_cmp items = then_cmp (on (text_at items) (slice_cmp nat_cmp)) nat_cmp

-- the places of all the items, in the order of their ranges' bytes
pub record IsRangeIndex (items : List Item) (places : List ℕ) : Type 0 where
  pub within : All (λ p. p < length items) places
  pub each : (k : ℕ) → k < length items → Contains places k
  pub ascending : IsSorted (place_cmp items) places

-- the place of the first item whose range has this text
pub record IsFirstWith (items : List Item) (text : List ℕ) (place : ℕ) : Type 0 where
  pub item : Item
  pub stands : slice_get items place ≡ Some item
  pub same : item.range ≡ text
  pub first : (k : ℕ) (other : Item) → k < place → slice_get items k ≡ Some other
      → other.range ≢ text

-- ---- one index or the other

-- what the index of a long list holds of its items
abbrev pub IsIndex : List Item → Index → Type 0
IsIndex items (index.Texts buckets) = AreTextBuckets items buckets
IsIndex items (index.Ranges places) = IsRangeIndex items places.items
IsIndex items (index.Subtags buckets) = AreSubtagBuckets items buckets
