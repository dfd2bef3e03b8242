use Rattle.std.proofs.Common.{refl}
use Rattle.std.proofs.lemmas.Result.{IfOk-weaker}
use Rattle.clap.specs.Words.{app_of}
use Rattle.command_core.specs.inner.ArgumentsWords.{IsCommand}
use Rattle.command_core.proofs.ArgumentsLemmas.{added}
use Rattle.command_core.proofs.arguments.with_preferences.Goals as goal

pub returns : goal.returns
returns c =
    let start : IsCommand (app_of c.args.command) c.args.command = (refl, c.requires) in
    let has_scheme = added _ _ _ _ _ start c.in_ok-arg.ensures c.scheme.ensures in
    let has_lenient = added _ _ _ _ _ has_scheme c.in_ok-arg-2.ensures c.lenient.ensures in
    let has_widen = added _ _ _ _ _ has_lenient c.in_ok-arg-3.ensures c.widen.ensures in
    let has_fallbacks = added _ _ _ _ _ has_widen c.in_ok-arg-4.ensures c.fallbacks.ensures in
    let has_default = added _ _ _ _ _ has_fallbacks c.in_ok-arg-5.ensures c.default.ensures in
    IfOk-weaker c.arg-6.result _ _ (λ r h. added _ _ _ _ _ has_default h c.field.ensures)
    c.arg-6.ensures
