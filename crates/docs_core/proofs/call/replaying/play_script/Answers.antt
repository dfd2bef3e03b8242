use Rattle.std.proofs.lemmas.Result.{err_from_is_err_and}
use Rattle.docs_core.proofs.ReplayingLemmas.{steps_refused}
use Rattle.docs_core.proofs.call.replaying.play_script.Goals as goal

pub returns-in_err-answers : goal.returns-in_err-answers
returns-in_err-answers c =
    let p =
    err_from_is_err_and c.from_residual-in_err-answers.result
    c.from_residual-in_err-answers.ensures.1 in
    rw p.1 (steps_refused c.args.bytes c.in_ok-script.script c.in_err-answers.field-0.0 p.0
    c.in_ok-script.ensures c.in_err-answers.ensures p.2)
