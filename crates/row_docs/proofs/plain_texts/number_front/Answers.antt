use Rattle.std.proofs.Common.{◌∙◌, ◌++◌, ap₂, arith, subst, sym}
use Rattle.std.specs.Str.{IsCharBoundary}
use Rattle.std.proofs.lemmas.List.{take-append-drop}
use Rattle.std.proofs.lemmas.Str.{IsCharBoundary-after_ascii}
use Rattle.row_docs.proofs.plain_texts.number_front.Goals as goal

pub range_from-requires : goal.range_from-requires
range_from-requires c = λ _.
    let front = rw c.as_bytes.ensures.value at c.in_ok-number.ensures in
    let utf8 = rw c.as_bytes.ensures.value at c.as_bytes.ensures.utf8 in
    subst (IsCharBoundary c.args.text.now) (sym front.last.1)
    (IsCharBoundary-after_ascii c.args.text.now front.last.0 utf8
    (omega (arith, front.within, front.last.1)) front.last.2)

pub returns : goal.returns
returns c =
    let front = rw c.as_bytes.ensures.value at c.in_ok-number.ensures in
    sym (take-append-drop c.in_ok-number.len c.args.text.now)
    ∙ ap₂ (λ s r. s ++ r) front.is (sym c.range_from.ensures.value)
