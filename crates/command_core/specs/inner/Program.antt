-- What clap makes of the words, and what is reported of its faults.
use Rattle.std.specs.Prelude.{◌≡◌, ◌≢◌, ◌⊎◌, ℕ, List, IfOk, Result}
use Rattle.clap.specs.Words.{App, Text, fault_of, subcommand_of, subcommand_rows_of, FailsBy}
use Rattle.clap.specs.declared.error.Error.{Error}
use Rattle.clap.specs.declared.error.kind.ErrorKind.{ErrorKind}
use Rattle.clap.specs.declared.error.kind.ErrorKind.TheVariants.{OutOfMemory}
use Rattle.clap.specs.declared.parser.matches.ArgMatches.{ArgMatches}
use Rattle.command_core.specs.OutputEndings.{EndsForMemory}
use Rattle.command_core.specs.OutputStreams.{Writer}
use Rattle.command_core.specs.Program.{IsProgram, Reports}

-- what clap makes of the words: at a command of the program, the matches that it has on them, or a
-- fault of the kinds that it finds in them
pub record MatchesBy (words : List Text) (result : Result ArgMatches Error) : Type 0 where
  pub app : App
  pub app_ok : IsProgram app
  pub matches : IfOk result (λ m. subcommand_rows_of m ≡ subcommand_of app words)
  pub fails : FailsBy (fault_of app words) result

-- `Reports`, unless memory runs out
abbrev pub ReportsBy : {W F : Type 0} → ErrorKind → Writer W → Writer F → ℕ → Type 0
ReportsBy kind writer faults status =
    EndsForMemory writer faults status ⊎ ((kind ≢ OutOfMemory) × Reports kind writer faults status)
