use Rattle.std.proofs.Common.{ℕ, List, ◌∙◌, ap, subst}
use Rattle.list_core.specs.Fingerprint.{slot_of}
use Rattle.list_core.specs.inner.Fingerprint.{IsTableOf}
use Rattle.nego_core.proofs.LangSetLemmas.{absent}
use Rattle.nego_core.proofs.lang_set.LangSetHolds.holds.Goals as goal

pub returns-else-self-slot_of : goal.returns-else-self-slot_of
returns-else-self-slot_of c =
    let table =
    subst (λ (langs : List (List ℕ)). IsTableOf slot_of 1024 langs c.self.inside.slots)
    c.self.view_is c.self.invariant in
    c.if-self-slot_of.false
    ∙ absent c.args.self.now c.self.inside.slots c.args.lang.now c.slot_of.result table
    (c.slot_of.ensures.slot ∙ ap slot_of c.as_bytes.ensures.value) c.if-self-slot_of.false
