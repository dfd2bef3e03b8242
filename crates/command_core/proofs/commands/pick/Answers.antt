use Rattle.std.proofs.lemmas.Result.{IfOk-weaker}
use Rattle.command_core.proofs.ArgumentsLemmas.{added, preferred}
use Rattle.command_core.proofs.commands.pick.Goals as goal

pub returns : goal.returns
returns c =
    let has = preferred _ _ _ _ _ c.described-command.ensures c.in_ok-with_preferences.ensures in
    let has_all = added _ _ _ _ _ has c.in_ok-arg.ensures c.all.ensures in
    IfOk-weaker c.arg-2.result _ _ (λ r h. added _ _ _ _ _ has_all h c.words.ensures)
    c.arg-2.ensures
