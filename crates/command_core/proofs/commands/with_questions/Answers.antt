use Rattle.std.proofs.Common.{Ok, refl}
use Rattle.command_core.proofs.ArgumentsLemmas.{with_command}
use Rattle.command_core.proofs.commands.with_questions.Goals as goal

pub returns : goal.returns
returns c =
    let with_pick =
    with_command _ _ (Ok c.args.program) c.pick.result c.with_command-program.result refl
    c.pick.ensures c.with_command-program.ensures in
    let with_filter =
    with_command _ _ c.with_command-program.result c.filter.result
    c.with_command-program-2.result with_pick c.filter.ensures
    c.with_command-program-2.ensures in
    let with_lookup =
    with_command _ _ c.with_command-program-2.result c.lookup.result
    c.with_command-program-3.result with_filter c.lookup.ensures
    c.with_command-program-3.ensures in
    with_command _ _ c.with_command-program-3.result c.bundle.result c.with_command.result
    with_lookup c.bundle.ensures c.with_command.ensures
