use Rattle.std.proofs.Common.{◌≡◌, ◌∙◌, [], ◌∷◌}
use Rattle.std.specs.Prelude.{None}
use Rattle.std.proofs.lemmas.Result.{IfOk-weaker}
use Rattle.json.specs.Token.{begin_object}
use Rattle.map_docs.specs.WritingMaps.{labels_tokens}
use Rattle.map_docs.proofs.MapsLemmas.{written_whole}
use Rattle.map_docs.proofs.WritingLemmas.{text_of}
use Rattle.map_docs.proofs.writing.close_labels.Goals as goal

pub returns : goal.returns
returns c = λ labels m w.
    let closed = c.close_objects.new.out in
    let adds = c.in_ok-close_objects.ensures in
    let none : closed.before ≡ [] = adds.0 ∙ w.before in
    let tokens : closed.tokens ≡ begin_object ∷ labels_tokens None labels = adds.1 ∙ w.tokens in
    text_of labels c.finish.result m (w.writable tt)
    (IfOk-weaker c.finish.result _ _ (λ _ is. is ∙ written_whole closed labels none tokens)
    c.finish.ensures.text)
    (IfOk-weaker c.finish.result _ _ (λ _ utf8. utf8 none) c.finish.ensures.utf8)
