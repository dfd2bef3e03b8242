use Rattle.std.proofs.Common.{◌≡◌, ◌≤◌, ◌+◌, ℕ, List, [], length, true}
use Rattle.json.specs.Json.{items, parse_map, value}
use Rattle.serde_json.specs.Data.{Data}
use Rattle.serde_json.specs.Read.{converted, of_items}
use Rattle.json_docs.specs.ScanningArrays.{TakesRows}
use Rattle.json_docs.specs.Numbers.{are_in_range}
use Rattle.json_docs.proofs.ScanningArraysLemmas.{before}
use Rattle.row_docs.proofs.arrays.read_rows.Given as goal

-- the array is the rows that were read, and then what is left
abbrev pub invariant-loop-alloc : goal.invariant-loop-alloc
invariant-loop-alloc g l =
    (n : ℕ) × (front : List Data) × (length l.reader ≤ n)
    × (converted of_items (items (value l.depth) (length l.fn.reader) l.fn.reader)
    ≡ parse_map (before front) (converted of_items (items (value l.depth) n l.reader)))
    × TakesRows (g.R.Rows.Checks l.fn.version) (g.R.Rows.Holds l.fn.start l.fn.version) []
    l.rows l.refusal front
    × (are_in_range l.reader ≡ true)
    × (l.place + length l.reader ≤ length l.fn.reader)
    × (length front ≡ l.place)

abbrev pub decreases-loop-alloc : goal.decreases-loop-alloc
decreases-loop-alloc g l = length l.reader
