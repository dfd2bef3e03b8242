use Rattle.std.proofs.Common.{◌∙◌, [], ◌∷◌, ◌++◌, ap}
use Rattle.json.specs.Token.{begin_object}
use Rattle.map_docs.proofs.WritingLemmas.{writing_first}
use Rattle.map_docs.proofs.writing.open_labels.Goals as goal

pub returns : goal.returns
returns c =
    let opened = c.in_ok-begin_object.ensures in
    let none = opened.room.0 ∙ c.new-draft.ensures.before ∙ c.new.ensures.items in
    λ labels. writing_first c.begin_object.new.self labels none
    (opened.ok ∙ ap (λ t. t ++ begin_object ∷ []) c.new-draft.ensures.tokens)
