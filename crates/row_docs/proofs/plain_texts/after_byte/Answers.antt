use Rattle.std.proofs.Common.{◌∙◌, ◌<◌, ◌∷◌, ap₂, drop-cons, refl, subst, sym}
use Rattle.std.proofs.lemmas.Str.{IsCharBoundary-after_ascii}
use Rattle.row_docs.proofs.plain_texts.after_byte.Goals as goal

pub range_from-requires : goal.range_from-requires
range_from-requires c = λ _.
    let first = rw c.as_bytes.ensures.value at (c.if-is_first.ensures refl) in
    let utf8 = rw c.as_bytes.ensures.value at c.as_bytes.ensures.utf8 in
    IsCharBoundary-after_ascii c.args.text.now 0 utf8 first.2
    (subst (λ b. b < 128) (sym first.0) first.1)

pub returns-then-is_first : goal.returns-then-is_first
returns-then-is_first c =
    let first = rw c.as_bytes.ensures.value at (c.if-is_first.ensures refl) in
    drop-cons c.args.text.now 0 0 first.2
    ∙ ap₂ (λ b bs. b ∷ bs) first.0 (sym c.range_from.ensures.value)
