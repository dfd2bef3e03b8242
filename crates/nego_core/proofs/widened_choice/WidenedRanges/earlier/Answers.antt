use Rattle.std.proofs.Common.{sym, ◌∙◌}
use Rattle.nego_core.proofs.WideningEarliestLemmas.{earliest_kept, earliest_new, earliest_unmatched}
use Rattle.nego_core.proofs.widened_choice.WidenedRanges.earlier.Goals as goal

pub returns-in-Some : goal.returns-in-Some
returns-in-Some c = λ langs h.
    earliest_new _ _ langs c.args.earliest
    (record { tried = c.in-Some.tried; lang = c.args.lang }) h c.in-Some.ensures
    (sym c.is_earlier.ensures ∙ c.if-is_earlier.true)

pub returns-in_default : goal.returns-in_default
returns-in_default c = λ langs h.
    earliest_kept _ _ langs c.args.earliest
    c.args.lang.now c.in-Some.tried h
    c.in-Some.ensures (sym c.is_earlier.ensures ∙ c.if-is_earlier.false)

pub returns-in_default-2 : goal.returns-in_default-2
returns-in_default-2 c = λ langs h.
    earliest_unmatched _ _ langs c.args.earliest
    c.args.lang.now h c.in_default.ensures
