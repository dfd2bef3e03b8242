use Rattle.std.proofs.Common.{inl, sym, ◌∙◌}
use Rattle.std.specs.Str.{str_to_ascii_lowercase}
use Rattle.lang_core.proofs.SubtagCaseLemmas.{star-lower}
use Rattle.lang_core.proofs.RangeText.{star_pieces, basic_answer}
use Rattle.lang_core.proofs.range_syntax.basic_fault.Goals as goal

pub returns-then-is_star : goal.returns-then-is_star
returns-then-is_star c =
    inl (star_pieces (str_to_ascii_lowercase c.args.text.now)
    (star-lower c.args.text.now ∙ (sym c.is_star.ensures ∙ c.if-is_star.true)))

pub returns : goal.returns
returns c =
    basic_answer (str_to_ascii_lowercase c.args.text.now) _
    (star-lower c.args.text.now ∙ (sym c.is_star.ensures ∙ c.if-is_star.false))
    c.first_refused.ensures
