use Rattle.std.proofs.Common.{◌≡◌, List, String, Global, Option, length, ◌++◌}
use Rattle.std.specs.Vec.Iter.{into_iter_items}
use Rattle.json_docs.specs.FaultChecks.{AllPass}
use Rattle.map_docs.specs.LabelsChecks.{members_checks}
use Rattle.map_docs.specs.inner.MembersRowsSeen.{HeldKeys, rows_seen}
use Rattle.map_docs.proofs.MapsLabelsLemmas.{HoldsRows}
use Rattle.map_docs.proofs.labels.labels_of.Given as goal

-- the rows so far pass, their labels are held, and those that are left are of greater messages
abbrev pub invariant-loop-name : goal.invariant-loop-name
invariant-loop-name l =
    (front : List (String Global × Option HeldKeys))
    × (l.fn.rows.items ≡ front ++ into_iter_items l.name-iterator)
    × (l.row ≡ length front)
    × AllPass (members_checks 0 (rows_seen front))
    × HoldsRows (rows_seen front) l.maps (into_iter_items l.name-iterator)
