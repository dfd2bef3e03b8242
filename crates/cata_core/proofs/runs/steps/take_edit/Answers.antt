use Rattle.std.proofs.Common.{[], ◌∷◌}
use Rattle.cata_core.proofs.SiteFaultLemmas.{of_cells}
use Rattle.cata_core.proofs.runs.steps.take_edit.Goals as goal

pub at_step-requires : goal.at_step-requires
at_step-requires c =
    of_cells c.args.own.now (c.args.edit.now ∷ []) c.in-Err.fault c.in-Err.ensures.fault

pub returns-in-Err-clause-err : goal.returns-in-Err-clause-err
returns-in-Err-clause-err c =
    c.at_step.ensures c.args.own.now (c.args.edit.now ∷ []) c.in-Err.ensures.fault
