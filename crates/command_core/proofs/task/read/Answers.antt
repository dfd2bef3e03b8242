use Rattle.clap.specs.Words.{found_of, rows_of}
use Rattle.std.specs.Box.{box_value}
use Rattle.clap.specs.declared.parser.matches.ArgMatches.TheViews.{out-ArgMatches, out-SubCommand}
use Rattle.command_core.proofs.TaskLemmas.{gives_task}
use Rattle.command_core.proofs.task.read.Goals as goal

pub returns : goal.returns
returns c =
    gives_task (λ b. (out-SubCommand (box_value b)).name.now)
    (λ b. rows_of (found_of (out-SubCommand (box_value b)).matches))
    (out-ArgMatches c.args.matches.now).subcommand
    c.in_ok-name.name.now (rows_of (found_of c.in_ok-name.arguments.now)) _
    c.in_ok-name.ensures.name c.in_ok-name.ensures.rows c.task_of.ensures
