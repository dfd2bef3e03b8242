use Rattle.script_docs.proofs.FieldWritingLemmas.{shortest}
use Rattle.script_docs.proofs.laws.a_written_field_is_the_shortest.Goals as goal

pub returns : goal.returns
returns c = shortest
