use Rattle.std.proofs.Common.{inr}
use Rattle.std.proofs.lemmas.Result.{err_from_is_err_and}
use Rattle.lang_core.specs.declared.fault.LangFault.TheVariants as lang
use Rattle.front_core.proofs.words.pick_answer.Goals as goal

pub returns-in_err-text : goal.returns-in_err-text
returns-in_err-text g c =
    let p = err_from_is_err_and c.from_residual-in_err-text.result
    c.from_residual-in_err-text.ensures.1 in
    let found = c.in_ok-found.ensures in
    rw p.1 (inr (
      ((found.default, found.default_ok), (found.list, found.list_ok)),
      (lang.NoMemory, tt, p.2),
    ))
