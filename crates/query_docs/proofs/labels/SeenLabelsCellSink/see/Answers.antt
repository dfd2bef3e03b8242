use Rattle.std.proofs.Common.{◌∙◌, sym}
use Rattle.std.proofs.lemmas.Result.{on_ok_weaker}
use Rattle.site_docs.specs.Sink.{entry_of}
use Rattle.query_docs.proofs.LabelsLemmas.{label_seen}
use Rattle.query_docs.proofs.labels.SeenLabelsCellSink.see.Goals as goal

-- one label more is counted
pub returns-then-is_label : goal.returns-then-is_label
returns-then-is_label c =
    on_ok_weaker c.add_label.result
    (λ is first before are above. label_seen before (entry_of c.args.cell) c.args.self.now.counts
    c.add_label.new.counts (sym c.is_label.ensures ∙ c.if-is_label.true) is are)
    c.add_label.ensures
