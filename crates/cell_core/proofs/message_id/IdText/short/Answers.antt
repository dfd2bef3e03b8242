use Rattle.std.proofs.Common.{sym, ◌∙◌, ap, subst}
use Rattle.cell_core.specs.MessageId.{KeepsShortId}
use Rattle.cell_core.specs.ZeroPadded.{zero_padded, before_zeros}
use Rattle.cell_core.proofs.MessageIdLemmas.{before_zeros-id, KeepsShortId-padded}
use Rattle.cell_core.proofs.message_id.IdText.short.Goals as goal

pub returns : goal.returns
returns c =
    let padded = c.zero_padded.ensures ∙ ap (zero_padded 32) c.as_bytes.ensures.value in (
      subst KeepsShortId (sym padded)
          (KeepsShortId-padded _ c.requires.id c.requires.short c.utf8.text),
      ap before_zeros padded ∙ before_zeros-id _ c.requires.id,
    )
