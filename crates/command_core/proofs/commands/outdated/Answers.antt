use Rattle.std.proofs.lemmas.Result.{IfOk-weaker}
use Rattle.command_core.proofs.ArgumentsLemmas.{added}
use Rattle.command_core.proofs.commands.outdated.Goals as goal

pub returns : goal.returns
returns c =
    let has_lang = added _ _ _ _ _ c.reading.ensures c.in_ok-arg.ensures c.lang.ensures in
    IfOk-weaker c.arg-2.result _ _ (λ r h. added _ _ _ _ _ has_lang h c.source.ensures)
    c.arg-2.ensures
