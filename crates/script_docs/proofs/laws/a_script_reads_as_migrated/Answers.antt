use Rattle.script_docs.proofs.ScriptsMigrationLemmas.{script_migrated}
use Rattle.script_docs.proofs.laws.a_script_reads_as_migrated.Goals as goal

pub returns : goal.returns
returns c = script_migrated
