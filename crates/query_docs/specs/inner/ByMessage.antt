-- Cells that are seen one after another, given on message by message.
use Rattle.std.specs.Prelude.{◌≡◌, ◌++◌, [], ℕ, All, Bool, List, None, Option, Some, false}
use Rattle.std.specs.Prelude.{map}
use Rattle.std.specs.Ordering.{is_eq}
use Rattle.std.specs.declared.cmp.Ordering.TheVariants.{Less}
use Rattle.cell_core.specs.Entry.{text_cmp}
use Rattle.catalogue.specs.Entries.{Entries, Entry}
use Rattle.site_docs.specs.Sink.{IsLabelRef, texts_of}
use Rattle.query_docs.specs.declared.by_message.ByMessage.{ByMessage}
use Rattle.query_docs.specs.declared.by_message.MessageCell.{MessageCell}

-- a cell of the message with this id
abbrev pub cell_of : List ℕ → MessageCell → Entry
cell_of id cell = ((id, cell.lang), record { stamp = cell.stamp; label = texts_of cell.label })

-- the cells of the message with this id
abbrev pub cells_of : List ℕ → List MessageCell → Entries
cells_of id cells = map (cell_of id) cells

-- the cells of the message with this id, if there is one
abbrev pub cells_by : Option (List ℕ) → List MessageCell → Entries
cells_by None cells = []
cells_by (Some id) cells = cells_of id cells

-- the cells of the message that is read, if any
abbrev pub entries_in : {T : Type 0} → ByMessage T → Entries
entries_in by = cells_by by.id by.cells.items

-- each single text is a label
abbrev pub AreLabelRefs : List MessageCell → Type 0
AreLabelRefs cells = All (λ c. IsLabelRef c.label) cells

-- whether the message that is read, if any, has this id
abbrev pub is_of : Option (List ℕ) → List ℕ → Bool
is_of None id = false
is_of (Some own) id = is_eq (text_cmp own id)

-- the cells are of one message, whose id is greater than those of the cells before
pub record IsNextMessage (before cells : Entries) : Type 0 where
  pub id : List ℕ
  pub own : All (λ e. e.0.0 ≡ id) cells
  pub above : All (λ e. text_cmp e.0.0 id ≡ Less) before

-- what the sink became by the cells that were given to it, with which those of the message that is
-- read are all that were seen
pub record HasGiven {T : Type 0} (Holds : T → T → Entries → Type 0) (first sink : T)
    (cells seen : Entries) : Type 0 where
  pub given : Entries
  pub all : seen ≡ given ++ cells
  pub next : IsNextMessage given cells
  pub begun : cells ≡ [] → given ≡ []
  pub holds : Holds first sink given

-- the same of what was seen, with the message that is read; each of its single texts
-- is a label
pub record HasSeen {T : Type 0} (Holds : T → T → Entries → Type 0) (first : T) (by : ByMessage T)
    (seen : Entries) : Type 0 where
  pub given : HasGiven Holds first by.sink (entries_in by) seen
  pub labels : AreLabelRefs by.cells.items
