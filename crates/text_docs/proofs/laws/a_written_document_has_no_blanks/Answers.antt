use Rattle.text_docs.proofs.MessageLaws.{written_compact}
use Rattle.text_docs.proofs.laws.a_written_document_has_no_blanks.Goals as goal

pub returns : goal.returns
returns c = written_compact
