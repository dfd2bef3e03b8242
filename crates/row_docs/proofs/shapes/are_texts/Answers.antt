use Rattle.std.proofs.Common.{◌∙◌}
use Rattle.json_docs.proofs.PartsSeenLemmas.{is_some-texts_in}
use Rattle.row_docs.proofs.shapes.are_texts.Goals as goal

pub returns : goal.returns
returns c = c.each_is_text.ensures ∙ is_some-texts_in c.args.items.now
