use Rattle.row_docs.proofs.WritingOneLine.{one_line}
use Rattle.row_docs.proofs.laws.a_written_text_is_one_line.Goals as goal

pub returns : goal.returns
returns c = one_line
