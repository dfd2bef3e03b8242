use Rattle.std.proofs.Common.{◌≡◌, true, false, sym, ◌∙◌}
use Rattle.std.specs.Str.{str_to_ascii_lowercase}
use Rattle.lang_core.specs.Grammar.{is_star}
use Rattle.lang_core.proofs.SubtagCaseLemmas.{star-lower}
use Rattle.lang_core.proofs.range_syntax.RangeSyntax.allows.Goals as goal

pub returns-then-is_star : goal.returns-then-is_star
returns-then-is_star c =
    let star : is_star (str_to_ascii_lowercase c.args.piece.now) ≡ true =
    star-lower c.args.piece.now ∙ (sym c.is_star.ensures ∙ c.if-is_star.true) in
    rw (c.in-Extended.is, star) c.if-is_star.true

pub returns-else-is_star : goal.returns-else-is_star
returns-else-is_star c =
    let star : is_star (str_to_ascii_lowercase c.args.piece.now) ≡ false =
    star-lower c.args.piece.now ∙ (sym c.is_star.ensures ∙ c.if-is_star.false) in
    rw (c.in-Extended.is, star) c.is_basic_piece-else-is_star.ensures
