use Rattle.std.proofs.Common.{◌∙◌}
use Rattle.cell_core.proofs.LabelLemmas.{pointwise-texts_of}
use Rattle.cell_core.proofs.label.LabelPartialEq.eq.Goals as goal

pub returns : goal.returns
returns c =
    rw (← c.texts.ensures.texts, ← c.texts-2.ensures.texts)
    (c.eq.ensures ∙ pointwise-texts_of c.texts.result.now c.texts-2.result.now)
