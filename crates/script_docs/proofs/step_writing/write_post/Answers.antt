use Rattle.std.proofs.Common.{refl}
use Rattle.std.proofs.lemmas.Result.{IfOk-weaker}
use Rattle.script_docs.specs.Steps.{post_step}
use Rattle.script_docs.proofs.step_writing.write_post.Goals as goal

pub returns-clause-ok : goal.returns-clause-ok
returns-clause-ok c =
    IfOk-weaker c.write_pair.result _ _
    (λ _ w. (
      post_step c.args.site c.args.told,
      record { room = (w.0, w.1); fields = λ k. tt; makes = refl; written = refl },
      w.2,
    ))
    c.write_pair.ensures.ok
