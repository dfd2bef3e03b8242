use Rattle.script_docs.proofs.ReadingOneScript.{one_script}
use Rattle.script_docs.proofs.laws.one_script.Goals as goal

pub returns : goal.returns
returns c = one_script
