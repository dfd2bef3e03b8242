use Rattle.std.proofs.Common.{◌≡◌, ◌≤◌, ℕ, List, length, true}
use Rattle.json.specs.Json.{items, parse_map, value}
use Rattle.serde_json.specs.Data.{Data}
use Rattle.serde_json.specs.Read.{converted, of_items}
use Rattle.json_docs.specs.Numbers.{are_in_range}
use Rattle.json_docs.proofs.ScanningArraysLemmas.{before}
use Rattle.map_docs.proofs.members.pass_items.Given as goal

-- the array is the items that were passed, and then what is left
abbrev pub invariant-loop-reader : goal.invariant-loop-reader
invariant-loop-reader l =
    (n : ℕ) × (front : List Data) × (length l.reader ≤ n)
    × (converted of_items (items (value 125) (length l.fn.reader) l.fn.reader)
    ≡ parse_map (before front) (converted of_items (items (value 125) n l.reader)))
    × (are_in_range l.reader ≡ true)
    × (length l.reader ≤ length l.fn.reader)

abbrev pub decreases-loop-reader : goal.decreases-loop-reader
decreases-loop-reader l = length l.reader
