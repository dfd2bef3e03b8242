use Rattle.row_docs.proofs.PlainTextsLemmas.{stops_masked}
use Rattle.row_docs.proofs.plain_texts.stops_of.Goals as goal

pub returns : goal.returns
returns c = stops_masked c.args.bytes c.fits-bytes.0
