use Rattle.std.proofs.Common.{◌∙◌, [], ◌∷◌, inr, sym}
use Rattle.std.proofs.lemmas.Slice.Eq.{bytes_eq-Decides}
use Rattle.site_docs.proofs.plain.documents.is_end.Goals as goal

-- the brace alone
pub returns-else-eq : goal.returns-else-eq
returns-else-eq c =
    λ is. inr ((bytes_eq-Decides c.args.text.now (125 ∷ [])).0 (sym c.eq-else-eq.ensures ∙ is))
