use Rattle.std.proofs.Common.{arith, ◌≡◌, ◌∙◌, take}
use Rattle.std.proofs.lemmas.Str.{IsCharBoundary-before_ascii, IsCharBoundary-after_ascii}
use Rattle.lang_core.proofs.PiecesLemmas.{separator_is, whole_of, cut_of}
use Rattle.lang_core.proofs.subtags.cut_first.Goals as goal

pub range-requires-clause-end_boundary : goal.range-requires-clause-end_boundary
range-requires-clause-end_boundary c =
    let at =
    separator_is 45 c.args.text.now c.as_bytes.result.now c.in-Some.at c.as_bytes.ensures.value
    c.in-Some.ensures in
    IsCharBoundary-before_ascii c.args.text.now c.in-Some.at at.0 (omega arith)

pub range_from-requires : goal.range_from-requires
range_from-requires c =
    let at =
    separator_is 45 c.args.text.now c.as_bytes.result.now c.in-Some.at c.as_bytes.ensures.value
    c.in-Some.ensures in
    λ _. IsCharBoundary-after_ascii c.args.text.now c.in-Some.at c.utf8.text at.0 (omega arith)

pub returns-in-Some : goal.returns-in-Some
returns-in-Some c =
    let front : c.range.result.now ≡ take c.in-Some.at c.args.text.now =
    c.range.ensures.value ∙ grind arith in
    rw (front, c.range_from.ensures.value)
    (cut_of 45 c.args.text.now c.as_bytes.result.now c.in-Some.at c.as_bytes.ensures.value
    c.in-Some.ensures)

pub returns-in-None : goal.returns-in-None
returns-in-None c =
    whole_of 45 c.args.text.now c.as_bytes.result.now c.as_bytes.ensures.value c.in-None.ensures
