-- Ranges as they are sorted for an index, and what a search in it finds.
use Rattle.std.specs.Prelude.{ℕ, ◌≡◌, ◌≢◌, ◌<◌, ◌≤◌, slice_index, true, false, List, Option, Some}
use Rattle.std.specs.Prelude.{None, MatchOption, length}
use Rattle.std.specs.List.{slice_get, slice_index_or}
use Rattle.std.specs.declared.cmp.Ordering.{Ordering}
use Rattle.std.specs.Ordering.{nat_cmp, on, then_cmp, is_lt}
use Rattle.std.specs.Cmp.Lexicographic.{slice_cmp}
use Rattle.list_core.specs.Item.{Item}
use Rattle.list_core.specs.Index.{text_at, IsFirstWith}
use Rattle.list_core.specs.declared.index.RangeKey.{RangeKey}

-- the key of the item at a place
pub record IsRangeKeyOf (items : List Item) (e : RangeKey) : Type 0 where
  pub within : e.place < length items
  pub text_is : e.text ≡ text_at items e.place

-- one key for each of the first n items, in written order
pub record AreRangeKeys (items : List Item) (n : ℕ) (keys : List RangeKey) : Type 0 where
  pub as_many : length keys ≡ n
  pub place_is : (k : ℕ) (d : RangeKey) → k < n → (slice_index_or keys k d).place ≡ k
  pub text_is : (k : ℕ) (d : RangeKey) → k < n → (slice_index_or keys k d).text ≡ text_at items k

-- the order of the keys: by the bytes of the ranges, then by place
abbrev pub range_key_cmp : RangeKey → RangeKey → Ordering
range_key_cmp = then_cmp (on (λ e. e.text) (slice_cmp nat_cmp)) (on (λ e. e.place) nat_cmp)

-- the places before this one are those of the ranges below the text
pub record IsPosition (items : List Item) (places : List ℕ) (text : List ℕ) (position : ℕ) : Type 0
  where
    pub within : position ≤ length places
    pub below : (k : ℕ) → k < position
        → is_lt (slice_cmp nat_cmp (text_at items (slice_index places k)) text) ≡ true
    pub above : (k : ℕ) → position ≤ k → k < length places
        → is_lt (slice_cmp nat_cmp (text_at items (slice_index places k)) text) ≡ false

-- the place of the first item whose range has this text, or none where no range has it
abbrev pub MatchFirst : List Item → List ℕ → Option ℕ → Type 0
MatchFirst items text place =
    MatchOption place ((k : ℕ) (other : Item) → slice_get items k ≡ Some other → other.range ≢ text)
    (IsFirstWith items text)

-- the place of the first item whose range is that of the item at a place, if there is one
abbrev pub IsFirstAlike : List Item → ℕ → Option ℕ → Type 0
IsFirstAlike items place found = of_item (slice_get items place) where
  of_item : Option Item → Type 0
  of_item None = found ≡ None
  of_item (Some i) = MatchFirst items i.range found
