use Rattle.std.proofs.Common.{◌≡◌, Option, None, subst}
use Rattle.std.specs.Prelude.{MatchOption}
use Rattle.std.specs.Str.Parse.{ParsesUnsigned, ExplainsUnsignedError, HasUnsignedDigitsIfOk}
use Rattle.clap.specs.Words.{Text, found_of, one_text}
use Rattle.clap.proofs.WalkLemmas.{one_text-rows}
use Rattle.command_core.specs.TaskWords.{IsNumberOf}
use Rattle.command_core.proofs.TaskLemmas.{gives_number}
use Rattle.command_core.proofs.task.number_of.Goals as goal

pub returns : goal.returns
returns c =
    let found = found_of c.args.matches.now in
    subst (λ (one : Option Text). MatchOption one (c.get_one.result ≡ None)
    (λ text. IsNumberOf text c.get_one.result)) (one_text-rows found c.args.id.now)
    (gives_number
    (λ bs r. ParsesUnsigned 64 10 bs r × ExplainsUnsignedError 10 bs r
    × HasUnsignedDigitsIfOk bs r) (one_text found c.args.id.now) c.get_one.result
    c.get_one.ensures.none c.get_one.ensures.value (λ t r h. h.0))
