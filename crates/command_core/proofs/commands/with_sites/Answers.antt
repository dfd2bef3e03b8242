use Rattle.std.proofs.Common.{Ok, refl}
use Rattle.command_core.proofs.ArgumentsLemmas.{with_command}
use Rattle.command_core.proofs.commands.with_sites.Goals as goal

-- The program has these four subcommands after those that it had: each was added to what the one
-- before it gave, and where memory ended nothing is promised.
pub returns : goal.returns
returns c =
    let with_new =
    with_command _ _ (Ok c.args.program) c.new.result c.with_command-program.result refl
    c.new.ensures c.with_command-program.ensures in
    let with_put =
    with_command _ _ c.with_command-program.result c.put.result
    c.with_command-program-2.result with_new c.put.ensures c.with_command-program-2.ensures in
    let with_delete =
    with_command _ _ c.with_command-program-2.result c.delete.result
    c.with_command-program-3.result with_put c.delete.ensures
    c.with_command-program-3.ensures in
    with_command _ _ c.with_command-program-3.result (Ok c.reading-status.result)
    c.with_command.result with_delete c.reading-status.ensures c.with_command.ensures
