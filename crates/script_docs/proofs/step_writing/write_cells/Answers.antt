use Rattle.std.proofs.Common.{refl}
use Rattle.std.proofs.lemmas.Result.{IfOk-weaker}
use Rattle.script_docs.specs.Steps.{cells_step}
use Rattle.script_docs.proofs.step_writing.write_cells.Goals as goal

pub returns-clause-ok : goal.returns-clause-ok
returns-clause-ok c =
    IfOk-weaker c.write_single.result _ _
    (λ _ w. (
      cells_step c.args.site,
      record { room = w.0; fields = λ k. tt; makes = refl; written = refl },
      w.1,
    ))
    c.write_single.ensures.ok
