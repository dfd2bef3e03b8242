use Rattle.std.proofs.Common.{[], ◌∷◌}
use Rattle.std.proofs.lemmas.Result.{IfOk-weaker}
use Rattle.json.specs.Token.{key}
use Rattle.row_docs.proofs.WritingTextsLemmas.{Adds-then}
use Rattle.map_docs.proofs.writing.write_label.Goals as goal

-- the language, and then the texts
pub returns-clause-tokens : goal.returns-clause-tokens
returns-clause-tokens c =
    let named = rw c.as_str.ensures.text at c.in_ok-key.ensures in
    IfOk-weaker c.write_language.result _ _ (λ _ adds.
    Adds-then c.args.out.now c.key.new.self c.write_language.new.out (key c.args.lang.now ∷ []) _
    (named.room.0, named.ok) adds) (rw c.texts-texts.ensures.texts at c.write_language.ensures)
