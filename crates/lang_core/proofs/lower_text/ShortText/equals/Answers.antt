use Rattle.lang_core.proofs.LowerTextLemmas.{eq-numbers}
use Rattle.lang_core.proofs.lower_text.ShortText.equals.Goals as goal

pub returns : goal.returns
returns c =
    rw (c.number.ensures.value, c.number-2.ensures.value)
    (eq-numbers c.args.self.now c.args.other.now c.number.ensures.text c.number-2.ensures.text)
