use Rattle.text_docs.proofs.RowLaws.{where_it_reads_so}
use Rattle.text_docs.proofs.laws.a_row_begins_where_it_reads_so.Goals as goal

pub returns : goal.returns
returns c = where_it_reads_so
