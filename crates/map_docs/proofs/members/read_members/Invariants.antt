use Rattle.std.proofs.Common.{◌≡◌, ◌≤◌, ℕ, length, true}
use Rattle.json.specs.Json.{members, value}
use Rattle.serde_json.specs.Data.{Members, no_members}
use Rattle.serde_json.specs.Read.{converted, of_members}
use Rattle.json_docs.specs.Numbers.{are_in_range}
use Rattle.map_docs.specs.MembersRows.{members_by}
use Rattle.map_docs.specs.inner.AscendingMap.{entries_of}
use Rattle.map_docs.specs.inner.MembersRowsSeen.{AreSorted, members_seen}
use Rattle.map_docs.proofs.members.read_members.Given as goal

-- the object is the members that were read, and then what is left
abbrev pub invariant-loop-found : goal.invariant-loop-found
invariant-loop-found g l =
    (n : ℕ) × (old : Members) × (length l.reader ≤ n)
    × (converted (λ ms. of_members ms no_members)
    (members (value g.V.MemberValue.most_depth) (length l.fn.reader) l.fn.reader)
    ≡ converted (λ ms. of_members ms old)
    (members (value g.V.MemberValue.most_depth) n l.reader))
    × (members_seen g.V.MemberValue.seen_of (entries_of l.found)
    ≡ members_by g.V.MemberValue.in_data old)
    × (are_in_range l.reader ≡ true)
    × (length l.reader ≤ length l.fn.reader)
    × AreSorted (entries_of l.found)

abbrev pub decreases-loop-found : goal.decreases-loop-found
decreases-loop-found g l = length l.reader
