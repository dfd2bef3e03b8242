use Rattle.lang_core.specs.Subtags.{subtags_left}
use Rattle.lang_core.proofs.PartsLemmas.{language_rest}
use Rattle.lang_core.proofs.parts.after_language.Goals as goal

pub returns-in-Some : goal.returns-in-Some
returns-in-Some c =
    language_rest c.args.tag.now _ (subtags_left c.in-Some.others) c.requires
    c.in-Some.ensures.0 c.in-Some.ensures.1
