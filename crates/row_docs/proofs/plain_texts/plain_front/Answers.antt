use Rattle.std.proofs.Common.{◌≡◌, ◌∙◌, ◌-◌, ap, arith, subst, sym, take}
use Rattle.json.specs.Print.{escape}
use Rattle.row_docs.proofs.PlainTextsLemmas.{before_stop, stop_boundary}
use Rattle.row_docs.proofs.plain_texts.plain_front.Goals as goal

pub range-requires-clause-end_boundary : goal.range-requires-clause-end_boundary
range-requires-clause-end_boundary c =
    let found = rw c.as_bytes.ensures.value at c.in_ok-end.ensures in
    stop_boundary c.args.text.now c.in_ok-end.end found

pub range_from-requires : goal.range_from-requires
range_from-requires c = λ _.
    let found = rw c.as_bytes.ensures.value at c.in_ok-end.ensures in
    stop_boundary c.args.text.now c.in_ok-end.end found

pub returns-clause-plain : goal.returns-clause-plain
returns-clause-plain c =
    let found = rw c.as_bytes.ensures.value at c.in_ok-end.ensures in
    let bytes = c.args.text.now in
    let end = c.in_ok-end.end in
    let all : end - 0 ≡ end = omega arith in
    let front : c.range.result.now ≡ take end bytes = c.range.ensures.value
    ∙ ap (λ n. take n bytes) all in
    subst (λ s. escape s ≡ s) (sym front) (before_stop bytes end found)
