-- Lists of edits, and the catalogue of a list.
use Rattle.std.specs.Prelude.{◌≡◌, ◌≢◌, ◌↔◌, Bool, not, ◌&&◌, List, [], ◌∷◌, filter, Contains}
use Rattle.std.specs.List.{list_all}
use Rattle.std.specs.Ordering.{is_lt, is_eq}
use Rattle.std.specs.declared.cmp.Ordering.TheVariants.{Less}
use Rattle.std.specs.FinMap.Entries.{put}
use Rattle.cell_core.specs.declared.cell.Cell.{Cell}
use Rattle.cell_core.specs.Stamp.{stamp_cmp}
use Rattle.cell_core.specs.Entry.{EntryKey, key_cmp}
use Rattle.catalogue.specs.Entries.{Entry, Entries}

-- two edits of one key with one stamp are equal
abbrev pub IsConsistent : List Entry → Type 0
IsConsistent edits =
    (key : EntryKey) (c d : Cell) → Contains edits (key, c) → Contains edits (key, d)
    → c.stamp ≡ d.stamp → c ≡ d

-- an edit of the key whose stamp no edit of the key exceeds
pub record IsBest (edits : List Entry) (key : EntryKey) (cell : Cell) : Type 0 where
  pub member : Contains edits (key, cell)
  pub greatest : (other : Cell) → Contains edits (key, other)
      → stamp_cmp cell.stamp other.stamp ≢ Less

-- the edits of a key that have its greatest stamp are equal
abbrev pub IsSettled : List Entry → Type 0
IsSettled edits = (key : EntryKey) (c d : Cell) → IsBest edits key c → IsBest edits key d → c ≡ d

-- the second is an edit of the same key with a greater stamp
abbrev pub is_beaten_by : Entry → Entry → Bool
is_beaten_by e f = is_eq (key_cmp e.0 f.0) && is_lt (stamp_cmp e.1.stamp f.1.stamp)

-- no edit of the list exceeds this one
abbrev pub is_best : List Entry → Entry → Bool
is_best edits e = list_all (λ f. not (is_beaten_by e f)) edits

-- the edits in ascending order of their keys
abbrev pub entries_of : List Entry → Entries
entries_of [] = []
entries_of (e ∷ es) = put key_cmp e.0 e.1 (entries_of es)

-- from each key of the edits to the cell of its best edit
abbrev pub catalogue_of : List Entry → Entries
catalogue_of edits = entries_of (filter (is_best edits) edits)

-- each edit of the one is in the other, however often and wherever
abbrev pub SameMembers : List Entry → List Entry → Type 0
SameMembers xs ys = (e : Entry) → Contains xs e ↔ Contains ys e
