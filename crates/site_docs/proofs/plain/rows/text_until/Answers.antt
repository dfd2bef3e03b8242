use Rattle.std.proofs.Common.{◌≡◌, ◌∙◌, ◌+◌, ◌-◌, ap, arith, length, length-append, subst}
use Rattle.std.specs.Str.{IsCharBoundary}
use Rattle.std.proofs.lemmas.Str.{IsCharBoundary-at_seam}
use Rattle.site_docs.proofs.plain.rows.text_until.Goals as goal

-- the rest begins where a letter does
pub range-requires-clause-end_boundary : goal.range-requires-clause-end_boundary
range-requires-clause-end_boundary c =
    let text = c.args.text.now in
    let front = c.requires.0 in
    let rest = c.args.rest.now in
    let len : length text ≡ length front + length rest = ap length c.requires.1
    ∙ length-append front rest in
    let place : length front ≡ length text - length rest = omega (arith, len) in
    subst (IsCharBoundary text) place
    (IsCharBoundary-at_seam text front rest c.requires.1 c.utf8.rest)
