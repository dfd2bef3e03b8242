-- The rows of a site that are joined with the cells of a catalogue as they are seen.
use Rattle.std.specs.Prelude.{◌≡◌, ◌++◌, [], ◌∷◌, ℕ, All, MatchOption, Option, length, ⊤}
use Rattle.std.specs.declared.cmp.Ordering.TheVariants.{Greater}
use Rattle.cell_core.specs.Cell.{AgreeCells, joined_cells}
use Rattle.cell_core.specs.Keyed.{AgreeAtKeys, IsMap, joined_entries}
use Rattle.cell_core.specs.declared.cell.Cell.{Cell}
use Rattle.cell_core.specs.declared.stamp.Stamp.{Stamp}
use Rattle.catalogue.specs.Cells.{cells_left}
use Rattle.catalogue.specs.ChangesLeft.{ahead_of}
use Rattle.catalogue.specs.Clash.{IsFirstClash}
use Rattle.cell_core.specs.Entry.{EntryKey, key_cmp}
use Rattle.catalogue.specs.Entries.{Entries, Entry, IsAboveAll}
use Rattle.site_docs.specs.RowsDraft.{HoldsRows}
use Rattle.site_docs.specs.declared.rows_draft.RowsDraft.{RowsDraft}
use Rattle.docs_core.specs.declared.call.joined_rows.Agreement.{Agreement}
use Rattle.docs_core.specs.declared.call.joined_rows.Agreement.TheVariants.{Agree, Clash}
use Rattle.docs_core.specs.declared.call.joined_rows.CellsLeft.{CellsLeft}
use Rattle.docs_core.specs.declared.call.joined_rows.JoinedRows.{JoinedRows}

-- the two agree, and these are their cells joined
pub record AreJoined (own other rows : Entries) : Type 0 where
  pub agree : AgreeAtKeys key_cmp AgreeCells own other
  pub are : rows ≡ joined_entries key_cmp joined_cells own other

-- the first of these, if there is one, is greater than the key
abbrev pub IsFirstGreater : EntryKey → Entries → Type 0
IsFirstGreater key [] = ⊤
IsFirstGreater key (e ∷ es) = key_cmp e.0 key ≡ Greater

-- The cells that were seen are joined with those of the other's that are not left: these are the
-- rows of both. Each cell that is left comes after what was seen, and this is true of those taken.
pub record IsJoiningAs (Below : Entries → Type 0) (left others seen rows : Entries) : Type 0 where
  pub taken : Entries
  pub all : others ≡ taken ++ left
  pub map : IsMap key_cmp others
  pub joined : AreJoined seen taken rows
  pub below : Below taken
  pub above : All (λ (d : Entry). IsAboveAll d.0 seen) left

-- what was taken comes before each key after what was seen
abbrev pub IsJoining : Entries → Entries → Entries → Entries → Type 0
IsJoining left others seen rows =
    IsJoiningAs (λ taken. (key : EntryKey) → IsAboveAll key seen → IsAboveAll key taken)
    left others seen rows

-- what was taken comes before a key that is seen next
abbrev pub IsJoiningBefore : EntryKey → Entries → Entries → Entries → Entries → Type 0
IsJoiningBefore key = IsJoiningAs (IsAboveAll key)

-- no key is seen any more
abbrev pub IsJoiningAll : Entries → Entries → Entries → Entries → Type 0
IsJoiningAll = IsJoiningAs (λ taken. ⊤)

-- the cells that are left
abbrev pub left_of : CellsLeft → Entries
left_of left = ahead_of left.first (cells_left left.rest)

-- the draft has the rows of what was seen, joined with the other's cells; or this is the first
-- place at which the two do not agree
abbrev pub IsJoinedTo : Option (ℕ × Stamp) → Entries → RowsDraft → Entries → Entries → Type 0
IsJoinedTo clash left draft others seen =
    MatchOption clash ((rows : Entries) × IsJoining left others seen rows × HoldsRows draft rows)
    (λ clash. IsFirstClash key_cmp seen others clash.0 clash.1)

-- the rows that were seen are counted, and joined
abbrev pub HoldsJoined : JoinedRows → Entries → Entries → Type 0
HoldsJoined state others seen = (state.seen ≡ length seen)
    × IsJoinedTo state.clash (left_of state.left) state.draft others seen

-- the joined cell of a key is written, where the two cells agree
abbrev pub IsWrittenBoth : Agreement → RowsDraft → RowsDraft → Entry → Cell → Type 0
IsWrittenBoth Agree old new e other = AgreeCells e.1 other
    × ((rows : Entries) → HoldsRows old rows
    → HoldsRows new (rows ++ (e.0, joined_cells e.1 other) ∷ []))
IsWrittenBoth Clash old new e other = ¬ (AgreeCells e.1 other)
