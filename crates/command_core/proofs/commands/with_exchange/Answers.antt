use Rattle.std.proofs.Common.{Ok, refl}
use Rattle.command_core.proofs.ArgumentsLemmas.{with_command}
use Rattle.command_core.proofs.commands.with_exchange.Goals as goal

-- The program has these seven subcommands after those that it had: each was added to what the one
-- before it gave, and where memory ended nothing is promised.
pub returns : goal.returns
returns c =
    let with_summary = with_command _ _ (Ok c.args.program) c.summary.result
    c.with_command-program.result refl c.summary.ensures c.with_command-program.ensures in
    let with_delta = with_command _ _ c.with_command-program.result (Ok c.reading-delta.result)
    c.with_command-program-2.result with_summary c.reading-delta.ensures
    c.with_command-program-2.ensures in
    let with_take = with_command _ _ c.with_command-program-2.result c.take.result
    c.with_command-program-3.result with_delta c.take.ensures
    c.with_command-program-3.ensures in
    let with_sync = with_command _ _ c.with_command-program-3.result c.sync.result
    c.with_command-program-4.result with_take c.sync.ensures
    c.with_command-program-4.ensures in
    let with_merge = with_command _ _ c.with_command-program-4.result c.merge.result
    c.with_command-program-5.result with_sync c.merge.ensures
    c.with_command-program-5.ensures in
    let with_replay =
    with_command _ _ c.with_command-program-5.result (Ok c.reading-replay.result)
    c.with_command-program-6.result with_merge c.reading-replay.ensures
    c.with_command-program-6.ensures in
    with_command _ _ c.with_command-program-6.result c.explain.result c.with_command.result
    with_replay c.explain.ensures c.with_command.ensures
