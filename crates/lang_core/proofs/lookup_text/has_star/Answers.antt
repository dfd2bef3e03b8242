use Rattle.std.proofs.Common.{◌∙◌, ap, sym}
use Rattle.std.specs.List.{list_any}
use Rattle.lang_core.specs.Grammar.{is_star}
use Rattle.lang_core.proofs.lookup_text.has_star.Goals as goal

pub returns : goal.returns
returns c = sym (c.loop-subtag.invariant ∙ ap (list_any is_star) c.in-None.ensures.steps.0)
