use Rattle.std.proofs.Common.{subst}
use Rattle.lang_core.specs.Lang.{RefusesLang}
use Rattle.site_docs.proofs.plain.languages.spelled_lang.Goals as goal

-- a text that is refused is no language, or memory ran out
pub returns-in-Err : goal.returns-in-Err
returns-in-Err c =
    c.of_lang.ensures c.args.text.now
    (subst (λ text. RefusesLang text c.in-Err.fault) c.as_bytes.ensures.value c.in-Err.ensures)
