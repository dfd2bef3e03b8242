use Rattle.std.proofs.Common.{◌∙◌, Some, sym}
use Rattle.cell_core.proofs.CellLemmas.{label_decides}
use Rattle.docs_core.proofs.call.synced_rows.is_same.Goals as goal

-- the labels that were made are equal
pub returns-in-Made-Made : goal.returns-in-Made-Made
returns-in-Made-Made c = λ is.
    let made = c.in-Made-Made in
    rw (made.is-0, made.is-1) ((label_decides (Some made.label) (Some made.other)).0
    (sym c.eq-in-Made-Made.ensures ∙ is))
