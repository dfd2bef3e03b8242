use Rattle.std.proofs.Common.{refl}
use Rattle.std.proofs.lemmas.Result.{IfOk-weaker}
use Rattle.clap.specs.Words.{app_of}
use Rattle.command_core.specs.inner.ArgumentsWords.{IsCommand}
use Rattle.command_core.proofs.ArgumentsLemmas.{added}
use Rattle.command_core.proofs.arguments.with_edit.Goals as goal

pub returns : goal.returns
returns c =
    let start : IsCommand (app_of c.args.command) c.args.command = (refl, c.requires) in
    let has_now = added _ _ _ _ _ start c.in_ok-arg.ensures c.now.ensures in
    let has_id = added _ _ _ _ _ has_now c.in_ok-arg-2.ensures c.id.ensures in
    IfOk-weaker c.arg-3.result _ _ (λ r h. added _ _ _ _ _ has_id h c.lang.ensures) c.arg-3.ensures
