use Rattle.std.proofs.Common.{◌^◌, ◌∙◌, arith}
use Rattle.std.specs.Ordering.{nat_cmp}
use Rattle.lang_core.proofs.LowerTextLemmas.{cmp-numbers, cmp-fronts}
use Rattle.lang_core.proofs.lower_text.ShortText.compare.Goals as goal

pub returns-then-front-other_front : goal.returns-then-front-other_front
returns-then-front-other_front c =
    c.cmp.ensures
    ∙ ((λ t. nat_cmp (c.number-number.ensures.value t) (c.number-other.ensures.value t))
    ∙ cmp-numbers c.args.self.now c.args.other.now c.number-number.ensures.text
    c.number-other.ensures.text)

pub returns-else-front-other_front : goal.returns-else-front-other_front
returns-else-front-other_front c =
    c.cmp-else-front-other_front.ensures
    ∙ (cmp-fronts c.number-number.result c.number-other.result (2 ^ 64) (omega arith)
    c.if-front-other_front.false
    ∙ ((λ t. nat_cmp (c.number-number.ensures.value t) (c.number-other.ensures.value t))
    ∙ cmp-numbers c.args.self.now c.args.other.now c.number-number.ensures.text
    c.number-other.ensures.text))
