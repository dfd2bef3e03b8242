use Rattle.std.proofs.Common.{◌∙◌, ◌++◌, ◌∷◌, [], ap, append_assoc}
use Rattle.std.proofs.lemmas.Result.{IfOk-weaker}
use Rattle.catalogue.specs.ChangesLeft.{change_seen}
use Rattle.query_docs.specs.Changes.{change_value}
use Rattle.query_docs.proofs.LinesLemmas.{printed_after}
use Rattle.query_docs.proofs.lines.Lines.change.Goals as goal

pub returns : goal.returns
returns c =
    let row = printed_after c.new-json.result c.write_change.new.out c.args.self (change_value
    (change_seen c.args.change.now)) (c.new-json.ensures.before
    ∙ c.self.view_is) c.new-json.ensures.tokens
    c.in_ok-write_change.ensures in
    IfOk-weaker c.text.result _ _ (λ _ is. is
    ∙ ap (λ t. t ++ 10 ∷ []) (c.into_inner.ensures.items ∙ row)
    ∙ append_assoc c.args.self _ (10 ∷ [])) c.text.ensures
