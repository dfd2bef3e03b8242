-- The messages of a catalogue that have live labels.
use Rattle.std.specs.Prelude.{◌≡◌, ℕ, List, [], ◌∷◌, Option, Some, None}
use Rattle.std.specs.FinMap.Entries.{find}
use Rattle.cell_core.specs.Keyed.{IsMap}
use Rattle.cell_core.specs.Entry.{text_cmp}
use Rattle.catalogue.specs.Entries.{Entries}
use Rattle.catalogue.specs.Live.{Labelled, live}

-- the bytes of a message's id, with its live labels
abbrev pub LiveMessage : Type 0
LiveMessage = List ℕ × Labelled

-- the labels, where there are any
abbrev pub if_any : Labelled → Option Labelled
if_any [] = None
if_any (label ∷ labels) = Some (label ∷ labels)

-- each message that has a live label, once, in ascending order of id, with all its live labels
pub record AreMessages (cells : Entries) (messages : List LiveMessage) : Type 0 where
  pub ascend : IsMap text_cmp messages
  pub each : (id : List ℕ) → find text_cmp id messages ≡ if_any (live cells id)
