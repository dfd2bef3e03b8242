use Rattle.std.proofs.Common.{◌≡◌, arith, take, get_or, ◌∙◌}
use Rattle.std.proofs.lemmas.Str.{IsCharBoundary-after_ascii}
use Rattle.lang_core.proofs.TruncationsLemmas.{pieces_last}
use Rattle.lang_core.proofs.PiecesLemmas.{pieces_no_hyphen}
use Rattle.lang_core.proofs.truncations.cut_last.Goals as goal

pub range_from-requires : goal.range_from-requires
range_from-requires c =
    let hyphen : get_or c.args.text.now c.in-Some.at 0 ≡ 45 = c.in-Some.ensures.1 in
    λ _. IsCharBoundary-after_ascii c.args.text.now c.in-Some.at c.utf8.text c.in-Some.ensures.0
    (omega arith)

pub returns-in-Some-clause-parts : goal.returns-in-Some-clause-parts
returns-in-Some-clause-parts c =
    let front : c.range.result.now ≡ take c.in-Some.at c.args.text.now =
    c.range.ensures.value ∙ grind arith in
    rw (front, c.range_from.ensures.value)
    (pieces_last c.args.text.now c.in-Some.at c.in-Some.ensures.0 c.in-Some.ensures.1
    c.in-Some.ensures.2)

pub returns-in-None-clause-parts : goal.returns-in-None-clause-parts
returns-in-None-clause-parts c = pieces_no_hyphen c.args.text.now c.in-None.ensures
