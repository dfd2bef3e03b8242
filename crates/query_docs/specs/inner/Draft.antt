-- Language maps that are being written, label by label.
use Rattle.std.specs.Prelude.{◌++◌, [], ℕ, IfSome, List, Option, option_map}
use Rattle.std.specs.List.{cons_option}
use Rattle.cell_core.specs.MessageId.{IsMessageId}
use Rattle.cell_core.specs.Entry.{EntryKey}
use Rattle.map_docs.specs.Maps.{Labelled}
use Rattle.map_docs.specs.WritingMaps.{IsWriting}
use Rattle.query_docs.specs.declared.draft.Draft.{Draft}

-- these labels are written: with any that are left it comes to both; the message that is open has
-- an id
abbrev pub HasWritten : Draft → List Labelled → Type 0
HasWritten draft labels =
    ((left : List Labelled) → IsWriting draft.out draft.current left (labels ++ left))
    × IfSome draft.current IsMessageId

-- the label of a key, if there is one
abbrev pub labelled_by : EntryKey → Option (List (List ℕ)) → List Labelled
labelled_by key texts = cons_option (option_map (λ label. (key, label)) texts) []
