-- Parts of a catalogue and of a summary: the entries of some of the messages.
use Rattle.std.specs.Prelude.{ℕ, Bool, List, filter}
use Rattle.cell_core.specs.Entry.{EntryKey}

-- the entries of these messages
abbrev pub part_of : {J : Type 0} → (List ℕ → Bool) → List (EntryKey × J) → List (EntryKey × J)
part_of messages es = filter (λ e. messages e.0.0) es
