-- The command line is one whose matches and faults clap states.
use Rattle.std.proofs.Common.{◌≡◌, ◌∙◌, ◌||◌, Bool, Result, Ok, Err, IfOk, true, ap₂, refl, subst}
use Rattle.std.proofs.lemmas.Result.{IfOk-weaker}
use Rattle.clap.specs.Words.{AddsArg, App, Rule, Text, app_of, is_simple, is_simple_and_free}
use Rattle.clap.specs.Words.{with_rule, with_subcommand}
use Rattle.clap.specs.declared.builder.arg.Arg.{Arg}
use Rattle.clap.specs.declared.builder.command.Command.{Command}
use Rattle.clap.proofs.OnLiterals.{clap_on_literals}
use Rattle.command_core.specs.ArgumentsWords.{ErrorNames, Schemes, lexicat_app, preferences_app}
use Rattle.command_core.specs.ArgumentsWords.{under as sub}
use Rattle.command_core.specs.inner.ArgumentsWords.{IsArgument, IsCommand, Joins}

-- The program's command line is one of which clap states the matches.
pub lexicat_simple : (schemes : Schemes) (names : ErrorNames)
    → is_simple (lexicat_app schemes names) ≡ true
unfolding clap_on_literals
lexicat_simple schemes names = refl

-- The program's command line is one of which clap also states the faults.
pub lexicat_free : (schemes : Schemes) (names : ErrorNames)
    → is_simple_and_free (lexicat_app schemes names) ≡ true
unfolding clap_on_literals
lexicat_free schemes names = refl

-- one more argument
pub added : (app : App) (rule : Rule) (old new : Command) (arg : Arg) → IsCommand app old
    → AddsArg old arg new → IsArgument rule arg → IsCommand (with_rule app rule) new
added app rule old new arg has adds is = (
  adds.shape is.1 ∙ ap₂ with_rule has.0 is.0,
  adds.globals
      ∙ ap₂ (λ (a b : Bool). a || b) has.1 is.1,
)

-- what a reader prefers, of a command that is known
pub preferred : (app : App) (schemes : Schemes) (name : Text) (old new : Command)
    → IsCommand app old
    → IsCommand (preferences_app (app_of old) schemes name) new
    → IsCommand (preferences_app app schemes name) new
preferred app schemes name old new is has =
    subst (λ (a : App). IsCommand (preferences_app a schemes name) new) is.0 has

-- one more subcommand
joined : {E : Type 0} (app under : App) (program command : Result Command E) (new : Command)
    → IfOk program (λ old. app_of old ≡ app) → IfOk command (IsCommand under)
    → Joins program command new → app_of new ≡ with_subcommand app under.top
joined app under (Ok old) (Ok command) new is under_is adds =
    adds.shape under_is.1 ∙ ap₂ sub is under_is.0
joined app under (Ok old) (Err e) new is under_is adds = absurd adds
joined app under (Err e) command new is under_is adds = absurd adds

-- the same of what they came to
pub with_command : {E : Type 0} (app under : App) (program command result : Result Command E)
    → IfOk program (λ old. app_of old ≡ app) → IfOk command (IsCommand under)
    → IfOk result (Joins program command)
    → IfOk result (λ new. app_of new ≡ with_subcommand app under.top)
with_command app under program command result is under_is joins =
    IfOk-weaker result _ _ (λ r h. joined app under program command r is under_is h) joins
