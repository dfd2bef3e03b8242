use Rattle.std.proofs.Common.{◌∙◌, ap}
use Rattle.list_core.specs.Fingerprint.{head_of}
use Rattle.list_core.proofs.OrderedTextLemmas.{lower, higher}
use Rattle.list_core.proofs.ordered_text.OrderedTextOrd.cmp.Goals as goal

pub returns-then-self-other : goal.returns-then-self-other
returns-then-self-other c =
    lower c.args.self.now c.args.other.now _ _ (c.self.invariant ∙ ap head_of c.self.view_is)
    (c.other.invariant ∙ ap head_of c.other.view_is) c.if-self-other.true

pub returns-then-other-self : goal.returns-then-other-self
returns-then-other-self c =
    higher c.args.self.now c.args.other.now _ _ (c.self.invariant ∙ ap head_of c.self.view_is)
    (c.other.invariant ∙ ap head_of c.other.view_is) c.if-other-self.true
