use Rattle.std.proofs.Common.{Ok, refl}
use Rattle.command_core.proofs.ArgumentsLemmas.{with_command}
use Rattle.command_core.proofs.commands.with_labels.Goals as goal

-- The program has these seven subcommands after those that it had: each was added to what the one
-- before it gave, and where memory ended nothing is promised.
pub returns : goal.returns
returns c =
    let with_import = with_command _ _ (Ok c.args.program) c.import.result
    c.with_command-program.result refl c.import.ensures
    c.with_command-program.ensures in
    let with_update = with_command _ _ c.with_command-program.result c.update.result
    c.with_command-program-2.result with_import c.update.ensures
    c.with_command-program-2.ensures in
    let with_export =
    with_command _ _ c.with_command-program-2.result (Ok c.reading-export.result)
    c.with_command-program-3.result with_update c.reading-export.ensures
    c.with_command-program-3.ensures in
    let with_missing = with_command _ _ c.with_command-program-3.result c.missing.result
    c.with_command-program-4.result with_export c.missing.ensures
    c.with_command-program-4.ensures in
    let with_outdated = with_command _ _ c.with_command-program-4.result c.outdated.result
    c.with_command-program-5.result with_missing c.outdated.ensures
    c.with_command-program-5.ensures in
    let with_changes =
    with_command _ _ c.with_command-program-5.result (Ok c.reading-changes.result)
    c.with_command-program-6.result with_outdated c.reading-changes.ensures
    c.with_command-program-6.ensures in
    with_command _ _ c.with_command-program-6.result (Ok c.reading-labels.result)
    c.with_command.result with_changes c.reading-labels.ensures c.with_command.ensures
