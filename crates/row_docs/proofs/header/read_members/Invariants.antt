use Rattle.std.proofs.Common.{◌≡◌, ◌≤◌, ℕ, length, true}
use Rattle.json.specs.Json.{members, value}
use Rattle.serde_json.specs.Data.{Members, no_members}
use Rattle.serde_json.specs.Read.{converted, of_members}
use Rattle.json_docs.specs.Numbers.{are_in_range}
use Rattle.row_docs.specs.inner.HeaderSeen.{Shows}
use Rattle.row_docs.proofs.header.read_members.Given as goal

-- the members that were read, and what is left
abbrev pub invariant-loop-name : goal.invariant-loop-name
invariant-loop-name g l =
    (n : ℕ) × (found : Members) × (length l.reader ≤ n)
    × (converted (λ ms. of_members ms no_members)
    (members (value 126) (length l.fn.reader) l.fn.reader) ≡ converted (λ ms. of_members ms found)
    (members (value 126) n l.reader))
    × Shows l.fn.wanted.kind (g.R.Rows.Checks l.fn.wanted.version)
    (g.R.Rows.Holds l.fn.wanted.start.now l.fn.wanted.version) l.header l.rows found
    × (are_in_range l.reader ≡ true)
    × (length l.reader ≤ length l.fn.reader)

abbrev pub decreases-loop-name : goal.decreases-loop-name
decreases-loop-name g l = length l.reader
