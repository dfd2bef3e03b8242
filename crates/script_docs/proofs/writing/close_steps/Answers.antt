use Rattle.std.proofs.Common.{◌∙◌, ℕ, List, [], ◌∷◌, ◌++◌, ap₂}
use Rattle.std.proofs.lemmas.Result.{IfOk-weaker}
use Rattle.json.specs.Print.{print}
use Rattle.json.specs.Token.{Token}
use Rattle.script_docs.proofs.WritingLemmas.{script_closed}
use Rattle.script_docs.proofs.writing.close_steps.Goals as goal

pub returns-clause-text : goal.returns-clause-text
returns-clause-text c = λ sites rows holds.
    let adds = c.in_ok-end_steps.ensures in
    let same = ap₂ (λ (b : List ℕ) (t : List Token). b ++ (print t ++ 10 ∷ [])) adds.0 adds.1 in
    IfOk-weaker c.finish.result _ _
    (λ _ is. is ∙ (same ∙ script_closed c.args.draft sites rows holds)) c.finish.ensures.text
