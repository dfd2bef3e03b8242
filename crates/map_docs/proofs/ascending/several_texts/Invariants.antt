use Rattle.std.proofs.Common.{◌≡◌, ◌≤◌, ℕ, length, map}
use Rattle.json.specs.Json.{items, parse_map, value}
use Rattle.serde_json.specs.Data.{string}
use Rattle.serde_json.specs.Read.{converted, of_items}
use Rattle.cell_core.specs.Label.{texts_of}
use Rattle.json_docs.proofs.ScanningArraysLemmas.{before}
use Rattle.map_docs.proofs.ascending.several_texts.Given as goal

-- the array is the strings that were read, and then what is left
abbrev pub invariant-loop-alloc : goal.invariant-loop-alloc
invariant-loop-alloc l =
    (n : ℕ) × (length l.reader ≤ n)
    × (converted of_items (items (value 124) (length l.fn.reader) l.fn.reader)
    ≡ parse_map (before (map string (texts_of l.texts.items)))
    (converted of_items (items (value 124) n l.reader)))
    × (length l.reader ≤ length l.fn.reader)

abbrev pub decreases-loop-alloc : goal.decreases-loop-alloc
decreases-loop-alloc l = length l.reader
