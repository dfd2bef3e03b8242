use Rattle.std.proofs.Common.{rules, ◌∙◌, ap, map, subst}
use Rattle.lang_core.specs.Lang.{SpellsLang, RefusesLang}
use Rattle.front_core.specs.Tags.{RefusesTags}
use Rattle.front_core.proofs.TagsLemmas.{more_langs, no_lang}
use Rattle.front_core.proofs.tags.read_words.Goals as goal

pub returns-in_err-parse : goal.returns-in_err-parse
returns-in_err-parse g c =
    let text = g.S.AsStr.text in
    let word = c.as_bytes.ensures.value ∙ c.as_str.ensures ∙ ap text c.tag-item.is in
    let refused : RefusesTags (map text c.args.tags.now) c.in_err-parse.field-0.0 =
    no_lang text c.args.tags.now c.loop-tag.tag-index c.tag-item.result _ _ c.loop-tag-test.true
    c.loop-tag.invariant (subst (λ w. RefusesLang w c.in_err-parse.field-0.0)
    word c.in_err-parse.ensures) in
    search rules

pub loop-tag-preserved : goal.loop-tag-preserved
loop-tag-preserved g c =
    let text = g.S.AsStr.text in
    let word = c.as_bytes.ensures.value ∙ c.as_str.ensures ∙ ap text c.tag-item.is in
    more_langs text c.args.tags.now c.loop-tag.tag-index c.tag-item.result _ _ _
    c.loop-tag-test.true c.in_ok-push.ensures.items c.loop-tag.invariant
    (subst (λ w. SpellsLang w c.in_ok-parse.field-0) word c.in_ok-parse.ensures)
