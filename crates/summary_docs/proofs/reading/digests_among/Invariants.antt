use Rattle.std.proofs.Common.{◌≡◌, map, take}
use Rattle.std.specs.Prelude.{Some}
use Rattle.cell_core.specs.Label.{texts_of}
use Rattle.serde_json.specs.View.{view}
use Rattle.summary_docs.specs.Reading.{digest_in}
use Rattle.summary_docs.proofs.reading.digests_among.Given as goal

-- the values so far are these digests
abbrev pub invariant-loop-item : goal.invariant-loop-item
invariant-loop-item l =
    map digest_in (map view (take l.item-index l.items)) ≡ map Some (texts_of l.digests.items)
