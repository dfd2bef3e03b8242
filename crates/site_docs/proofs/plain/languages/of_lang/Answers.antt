use Rattle.site_docs.proofs.LanguagesLemmas.{refused_is_no_lang}
use Rattle.site_docs.proofs.plain.languages.of_lang.Goals as goal

-- a text that is refused, out of memory apart, is no language
pub returns-in_default : goal.returns-in_default
returns-in_default c = λ text. refused_is_no_lang text c.args.fault c.in_default.not-NoMemory
