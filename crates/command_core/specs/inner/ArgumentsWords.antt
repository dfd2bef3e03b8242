-- Commands and arguments, as they are built one after another.
use Rattle.std.specs.Prelude.{◌≡◌, Result, false, MatchResult}
use Rattle.clap.specs.Words.{AddsSubcommand, App, Rule, app_of, rule_of}
use Rattle.clap.specs.declared.builder.arg.Arg.{Arg}
use Rattle.clap.specs.declared.builder.command.Command.{Command}
use Rattle.clap.specs.declared.builder.command.Command.TheViews.{out-Command}

-- an argument of one command alone, with this rule
abbrev pub IsArgument : Rule → Arg → Type 0
IsArgument rule arg = (rule_of arg ≡ rule) × (arg.global ≡ false)

-- a command with these arguments, and none that its subcommands share
abbrev pub IsCommand : App → Command → Type 0
IsCommand app command = (app_of command ≡ app) × ((out-Command command).has_globals ≡ false)

-- the program and the command are there, and this is that program with that command under it
abbrev pub Joins : {E : Type 0} → Result Command E → Result Command E → Command → Type 0
Joins program command joined =
    MatchResult program
    (λ old. MatchResult command (λ under. AddsSubcommand old under joined) (λ _. ⊥)) (λ _. ⊥)
