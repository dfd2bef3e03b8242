use Rattle.std.proofs.Common.{◌≡◌, ◌≤◌, ℕ, length}
use denote.Text.{Utf8}
use denote.Shadow.{shadow}
use Rattle.json.specs.Json.{members, value}
use Rattle.serde_json.specs.Data.{Members, no_members}
use Rattle.serde_json.specs.Read.{converted, of_members}
use Rattle.map_docs.specs.MapsLabels.{rows_labels}
use Rattle.map_docs.specs.MembersRows.{message_rows}
use Rattle.map_docs.proofs.AscendingLemmas.{AreAscendingRows}
use Rattle.map_docs.proofs.ascending.take_messages.Given as goal

-- the object is the members that were read, and then what is left; their names ascend, and their
-- labels were taken
abbrev pub invariant-loop-name : goal.invariant-loop-name
invariant-loop-name g l =
    shadow (Utf8 l.last)
    × ((n : ℕ) × (old : Members) × (length l.reader ≤ n)
    × (converted (λ ms. of_members ms no_members)
    (members (value 126) (length l.fn.reader) l.fn.reader)
    ≡ converted (λ ms. of_members ms old) (members (value 126) n l.reader))
    × AreAscendingRows l.last (message_rows old)
    × g.T.TakeLabels.Holds l.fn.taker l.taker (rows_labels (message_rows old)))

abbrev pub decreases-loop-name : goal.decreases-loop-name
decreases-loop-name g l = length l.reader
