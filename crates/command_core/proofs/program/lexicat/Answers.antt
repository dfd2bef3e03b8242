use Rattle.std.proofs.Common.{◌∙◌, ap}
use Rattle.std.proofs.lemmas.Result.{IfOk-weaker}
use Rattle.clap.specs.Words.{App}
use Rattle.command_core.specs.ArgumentsWords.{exchange_app, labels_app, questions_app, sites_app}
use Rattle.command_core.proofs.program.lexicat.Goals as goal

pub returns : goal.returns
returns c =
    let schemes = c.args.schemes in
    let sites = c.in_ok-sites.ensures ∙ ap sites_app c.in_ok-bare.ensures in
    let labels = c.in_ok-labels.ensures ∙ ap labels_app sites in
    let questions =
    c.in_ok-questions.ensures ∙ ap (λ (it : App). questions_app it schemes) labels in
    IfOk-weaker c.with_exchange.result _ _
    (λ r h. h ∙ ap (λ (it : App). exchange_app it c.args.errors) questions)
    c.with_exchange.ensures
