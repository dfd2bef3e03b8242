use Rattle.std.proofs.Common.{◌≡◌, ◌≢◌, ◌∙◌, rules}
use Rattle.site_docs.proofs.LanguagesLemmas.{spelled_otherwise}
use Rattle.site_docs.proofs.plain.languages.in_lower_case.Goals as goal

-- a language in lower case is spelled by its own text
pub returns-else-eq : goal.returns-else-eq
returns-else-eq c =
    let other : c.args.lang ≢ c.args.text.now = λ same.
    let eq : c.as_str.result.now ≡ c.args.text.now = c.as_str.ensures.text ∙ same in search rules in
    spelled_otherwise c.args.text.now c.args.lang c.requires other
