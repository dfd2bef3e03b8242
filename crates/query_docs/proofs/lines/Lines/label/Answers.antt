use Rattle.std.proofs.Common.{◌∙◌}
use Rattle.row_docs.specs.EntriesValues.{texts_value}
use Rattle.query_docs.proofs.LinesLemmas.{printed_after}
use Rattle.query_docs.proofs.lines.Lines.label.Goals as goal

pub returns : goal.returns
returns c =
    c.into_inner.ensures.items
    ∙ printed_after c.new-json.result c.write_texts.new.out c.args.self
    (texts_value c.args.label.now) (c.new-json.ensures.before ∙ c.self.view_is)
    c.new-json.ensures.tokens
    (rw c.texts.ensures.texts at c.in_ok-write_texts.ensures)
