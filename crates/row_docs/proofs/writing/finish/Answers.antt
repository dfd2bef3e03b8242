use Rattle.std.proofs.Common.{◌≡◌, ◌∙◌, [], ◌∷◌, ◌++◌, ap, append_assoc, subst, sym}
use Rattle.std.specs.Prelude.{IsUtf8}
use Rattle.json.specs.Print.{print}
use Rattle.row_docs.proofs.WritingTextsLemmas.{utf8_line}
use Rattle.row_docs.proofs.writing.finish.Goals as goal

pub returns-clause-utf8 : goal.returns-clause-utf8
returns-clause-utf8 c =
    let before = c.args.draft.before in
    let text = print c.args.draft.tokens in
    let is : c.from.result ≡ before ++ (text ++ 10 ∷ []) =
    c.from.ensures ∙ (c.in_ok-push.ensures.items
    ∙ (ap (λ b. b ++ 10 ∷ []) c.into_inner-bytes.ensures.items
    ∙ append_assoc before text (10 ∷ []))) in
    λ none. subst IsUtf8 (sym is) (utf8_line before text c.into_inner-bytes.ensures.utf8 none)
