use Rattle.std.proofs.Common.{◌≡◌, ◌∙◌, [], ◌∷◌, Some, ap, option_map, string_bytes, sym}
use Rattle.std.proofs.lemmas.Slice.Eq.{bytes_eq-Decides}
use Rattle.cell_core.specs.Label.{texts_of}
use Rattle.docs_core.proofs.UpdatingLemmas.{one_of}
use Rattle.docs_core.proofs.call.revised.is_text.Goals as goal

-- the label has one text, which is this one or another
pub returns-in-len1 : goal.returns-in-len1
returns-in-len1 c =
    let only = c.only-item.result in
    let text = c.args.text.now in
    let is = one_of c.texts.result.now only c.in-len1.len_at_least c.in-len1.len_below
    c.only-item.is in
    let label : option_map (λ l. l.now) c.args.label ≡ Some (string_bytes only ∷ []) =
    ap (option_map (λ l. l.now)) c.in-Some.is
    ∙ ap Some (sym c.texts.ensures.texts ∙ ap texts_of is) in
    let decides = bytes_eq-Decides c.as_str.result.now text in (
      λ t. ap (λ b. Some (b ∷ []))
          (sym (decides.0 (sym c.eq.ensures ∙ t)) ∙ c.as_str.ensures.value)
          ∙ sym label,
      λ same. c.eq.ensures ∙ decides.1 (c.as_str.ensures.value ∙ (
          let both = same ∙ label in let one : text ≡ string_bytes only = cc in sym one)),
    )
