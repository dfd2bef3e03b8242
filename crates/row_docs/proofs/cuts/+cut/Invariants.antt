use Rattle.std.proofs.Common.{◌≡◌, ◌≤◌, ◌+◌, ◌*◌, ℕ, List, length, true}
use Rattle.json.specs.Json.{items, parse_map, value}
use Rattle.serde_json.specs.Data.{Data}
use Rattle.serde_json.specs.Read.{converted, of_items}
use Rattle.json_docs.specs.Numbers.{are_in_range}
use Rattle.json_docs.proofs.ScanningArraysLemmas.{before}
use Rattle.row_docs.specs.inner.CutsSeen.{Keeps}
use Rattle.row_docs.proofs.cuts.+cut.Given as goal

abbrev pub decreases-next_cut : goal.decreases-next_cut
decreases-next_cut l = 3 * l.levels + 2

abbrev pub decreases-next_items : goal.decreases-next_items
decreases-next_items l = 3 * l.levels + 1

abbrev pub decreases-next_kept : goal.decreases-next_kept
decreases-next_kept l = 3 * l.levels

-- the array is the items that were read, of which some are kept, and then what is left
abbrev pub invariant-next_items-loop-alloc : goal.invariant-next_items-loop-alloc
invariant-next_items-loop-alloc l =
    (n : ℕ) × (front : List Data) × (length l.reader ≤ n)
    × (converted of_items (items (value l.depth) (length l.fn.reader) l.fn.reader)
    ≡ parse_map (before front) (converted of_items (items (value l.depth) n l.reader)))
    × Keeps l.levels front l.kept
    × (are_in_range l.reader ≡ true)
    × (l.kept.count + length l.reader ≤ length l.fn.reader)

abbrev pub decreases-next_items-loop-alloc : goal.decreases-next_items-loop-alloc
decreases-next_items-loop-alloc l = length l.reader
