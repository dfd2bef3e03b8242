use Rattle.std.proofs.Common.{◌∙◌, subst}
use Rattle.cell_core.specs.MessageId.{KeepsId}
use Rattle.cell_core.proofs.MessageIdLemmas.{cmp-short_ids}
use Rattle.cell_core.proofs.message_id.IdText.compare.Goals as goal

pub returns-in-Short-Short : goal.returns-in-Short-Short
returns-in-Short-Short c =
    let own = subst KeepsId c.in-Short-Short.is-0 c.requires.own in
    let others = subst KeepsId c.in-Short-Short.is-1 c.requires.others in
    rw (c.in-Short-Short.is-0, c.in-Short-Short.is-1) (c.cmp.ensures ∙ cmp-short_ids _ _ own others)
