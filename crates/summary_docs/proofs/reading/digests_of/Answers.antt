use Rattle.std.proofs.Common.{◌≡◌, ◌∙◌, ap, map, sym}
use Rattle.std.proofs.lemmas.Result.{IfOk-weaker}
use Rattle.std.specs.Prelude.{Some, option_map}
use Rattle.json_docs.specs.Parts.{items_in, list_of}
use Rattle.serde_json.specs.View.{view}
use Rattle.row_docs.proofs.EntriesWrittenRows.{list_of-items_of}
use Rattle.summary_docs.proofs.ReadingLemmas.{found_among}
use Rattle.summary_docs.proofs.reading.digests_of.Goals as goal

-- they are those of its items
pub returns-in-Some : goal.returns-in-Some
returns-in-Some c =
    let vs = c.in-Some.items.now.items in
    let listed : items_in (view c.args.labels.now) ≡ Some (map view vs) =
    ap (option_map list_of) (sym c.in-Some.ensures) ∙ ap Some (list_of-items_of (map view vs)) in
    IfOk-weaker c.digests_among.result _ _
    (λ found among. found_among (view c.args.labels.now) vs found listed
    (rw c.as_slice.ensures.value at among)) c.digests_among.ensures
