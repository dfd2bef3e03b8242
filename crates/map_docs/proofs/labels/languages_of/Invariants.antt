use Rattle.std.proofs.Common.{◌≡◌, List, String, Global, [], ◌++◌}
use Rattle.std.specs.Vec.Iter.{into_iter_items}
use Rattle.json_docs.specs.FaultChecks.{AllPass}
use Rattle.map_docs.specs.LabelsChecks.{keys_checks}
use Rattle.map_docs.specs.inner.MembersRowsSeen.{HeldStrings, HoldsKeys, keys_seen}
use Rattle.map_docs.proofs.labels.languages_of.Given as goal

-- the keys so far pass, and are held
abbrev pub invariant-loop-key : goal.invariant-loop-key
invariant-loop-key l =
    (front : List (String Global × HeldStrings))
    × (l.fn.keys.items ≡ front ++ into_iter_items l.key-iterator)
    × AllPass (keys_checks l.row [] (keys_seen front)) × HoldsKeys (keys_seen front) l.found.entries
