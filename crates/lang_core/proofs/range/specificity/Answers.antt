use Rattle.std.proofs.Common.{arith, inl, ◌≡◌, ◌≤◌, ◌+◌, length, ap, ◌∙◌}
use Rattle.lang_core.specs.Text.{pieces}
use Rattle.lang_core.specs.inner.Pieces.{pieces_left}
use Rattle.lang_core.proofs.PiecesLemmas.{few_pieces}
use Rattle.lang_core.proofs.range.specificity.Goals as goal

pub count-requires-clause-fits : goal.count-requires-clause-fits
count-requires-clause-fits c =
    let left : pieces_left c.filter.result.iter ≡ pieces c.args.range.now =
    ap pieces_left c.filter.ensures.source ∙ c.new.ensures in
    let few : length (pieces c.args.range.now) ≤ length c.args.range.now + 1 =
    few_pieces c.args.range.now in
    let same : length (pieces_left c.filter.result.iter) ≡ length (pieces c.args.range.now) =
    ap length left in
    inl (omega arith)
