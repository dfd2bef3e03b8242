use Rattle.std.proofs.Common.{◌≡◌, ◌≤◌, ℕ, length}
use denote.Text.{Utf8}
use denote.Shadow.{shadow}
use Rattle.json.specs.Json.{members, value}
use Rattle.serde_json.specs.Data.{Members, no_members}
use Rattle.serde_json.specs.Read.{converted, of_members}
use Rattle.map_docs.specs.MembersRows.{keys_of}
use Rattle.map_docs.specs.inner.AscendingLabels.{Takes}
use Rattle.map_docs.proofs.AscendingLemmas.{AreAscendingKeys}
use Rattle.map_docs.proofs.ascending.take_languages.Given as goal

-- the object is the members that were read, and then what is left; their keys ascend, and their
-- labels were taken
abbrev pub invariant-loop-key : goal.invariant-loop-key
invariant-loop-key g l =
    shadow (Utf8 l.last)
    × ((n : ℕ) × (old : Members) × (length l.reader ≤ n)
    × (converted (λ ms. of_members ms no_members)
    (members (value 125) (length l.fn.reader) l.fn.reader)
    ≡ converted (λ ms. of_members ms old) (members (value 125) n l.reader))
    × (length l.reader ≤ length l.fn.reader)
    × AreAscendingKeys l.last (keys_of old)
    × Takes g.T.TakeLabels.Holds l.fn.taker l.taker l.id (keys_of old))

abbrev pub decreases-loop-key : goal.decreases-loop-key
decreases-loop-key g l = length l.reader
