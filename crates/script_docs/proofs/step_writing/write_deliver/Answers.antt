use Rattle.std.proofs.Common.{refl}
use Rattle.std.proofs.lemmas.Result.{IfOk-weaker}
use Rattle.script_docs.specs.Steps.{deliver_step}
use Rattle.script_docs.proofs.step_writing.write_deliver.Goals as goal

pub returns-clause-ok : goal.returns-clause-ok
returns-clause-ok c =
    IfOk-weaker c.write_single.result _ _
    (λ _ w. (
      deliver_step c.args.post,
      record { room = w.0; fields = λ k. tt; makes = refl; written = refl },
      w.1,
    ))
    c.write_single.ensures.ok
