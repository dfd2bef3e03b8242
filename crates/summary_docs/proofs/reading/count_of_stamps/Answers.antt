use Rattle.std.proofs.Common.{◌∙◌, ap, length}
use Rattle.serde_json.specs.View.{view}
use Rattle.summary_docs.proofs.ReadingLemmas.{rows_counted}
use Rattle.summary_docs.proofs.reading.count_of_stamps.Goals as goal

pub returns-in-Some-as_array : goal.returns-in-Some-as_array
returns-in-Some-as_array c =
    ap length c.as_slice.ensures.value
    ∙ rows_counted (view c.args.value.now) (view c.in-Some.stamps.now)
    c.in-Some-as_array.rows.now.items c.in-Some.ensures c.in-Some-as_array.ensures
