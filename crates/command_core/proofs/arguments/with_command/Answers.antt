use Rattle.std.proofs.lemmas.Result.{IfOk-weaker}
use Rattle.command_core.proofs.arguments.with_command.Goals as goal

pub returns : goal.returns
returns c =
    IfOk-weaker c.subcommand.result _ _ (λ r h. rw c.in_ok-program.was (rw c.in_ok-command.was h))
    c.subcommand.ensures
