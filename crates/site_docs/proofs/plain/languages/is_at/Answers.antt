use Rattle.std.proofs.Common.{◌∙◌, [], sym}
use Rattle.std.proofs.lemmas.List.{get_or_read}
use Rattle.std.proofs.lemmas.Slice.Eq.{bytes_eq-Decides}
use Rattle.site_docs.proofs.plain.languages.is_at.Goals as goal

-- the language that is read there is that of the text
pub returns-then-place-languages : goal.returns-then-place-languages
returns-then-place-languages c = λ same.
    let found = c.index-languages-place.result in
    let within = c.if-place-languages.true in
    let read =
    get_or_read c.args.languages.now c.args.place found within c.index-languages-place.is [] in
    let spelled =
    (bytes_eq-Decides c.as_str.result.now c.args.text.now).0 (sym c.eq.ensures ∙ same) in
    (sym read ∙ sym c.as_str.ensures.text ∙ spelled, rw (← spelled) c.as_str.ensures.lang, within)
