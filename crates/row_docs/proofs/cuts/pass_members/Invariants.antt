use Rattle.std.proofs.Common.{◌≡◌, ◌≤◌, ℕ, length, true}
use Rattle.json.specs.Json.{members, value}
use Rattle.serde_json.specs.Data.{Members, no_members}
use Rattle.serde_json.specs.Read.{converted, of_members}
use Rattle.json_docs.specs.Numbers.{are_in_range}
use Rattle.row_docs.proofs.cuts.pass_members.Given as goal

-- the members that were passed, and what is left
abbrev pub invariant-loop-reader : goal.invariant-loop-reader
invariant-loop-reader l =
    (n : ℕ) × (found : Members) × (length l.reader ≤ n)
    × (converted (λ ms. of_members ms no_members)
    (members (value l.depth) (length l.fn.reader) l.fn.reader)
    ≡ converted (λ ms. of_members ms found)
    (members (value l.depth) n l.reader))
    × (are_in_range l.reader ≡ true)
    × (length l.reader ≤ length l.fn.reader)

abbrev pub decreases-loop-reader : goal.decreases-loop-reader
decreases-loop-reader l = length l.reader
