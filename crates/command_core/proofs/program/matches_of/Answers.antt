use Rattle.std.proofs.Common.{rules, ◌∙◌, List, ap, map, subst}
use Rattle.std.proofs.lemmas.Result.{IfOk-weaker}
use Rattle.clap.specs.Words.{App, FailsBy, Text, fault_of, is_simple, is_simple_and_free}
use Rattle.clap.specs.Words.{subcommand_of}
use Rattle.command_core.proofs.ArgumentsLemmas.{lexicat_free, lexicat_simple}
use Rattle.command_core.proofs.ProgramLemmas.{no_memory}
use Rattle.command_core.specs.ArgumentsWords.{lexicat_app}
use Rattle.command_core.proofs.program.matches_of.Goals as goal

pub returns-in_err-lexicat : goal.returns-in_err-lexicat
returns-in_err-lexicat g c =
    no_memory c.as_slice.result c.as_slice-2.result (search rules) (search rules) _
    c.from_residual.result c.from_residual.ensures.1

-- The words are matched, or refused, as the program of all subcommands says, since what was built
-- is that program, whose arguments are all simple.
pub returns : goal.returns
returns g c =
    let schemes = c.as_slice.result in
    let names = c.as_slice-2.result in
    let is = c.in_ok-lexicat.ensures in
    let words : List Text = map g.S.AsStr.text c.args.words.now in record {
      app = lexicat_app schemes names;
      app_ok = record {
        schemes = schemes;
        scheme_words = search rules;
        names = names;
        name_words = search rules;
        app_is = search rules;
      };
      matches = IfOk-weaker c.try_get_matches_from.result _ _
          (λ m h. (h (ap is_simple is ∙ lexicat_simple schemes names)).1
          ∙ ap (λ (a : App). subcommand_of a words) is)
          c.try_get_matches_from.ensures.matches;
      fails = subst (λ (a : App). FailsBy (fault_of a words) c.try_get_matches_from.result) is
          (c.try_get_matches_from.ensures.kinds
          (ap is_simple_and_free is ∙ lexicat_free schemes names));
    }
