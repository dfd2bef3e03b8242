use Rattle.std.proofs.lemmas.Result.{IfOk-weaker}
use Rattle.command_core.proofs.ArgumentsLemmas.{added}
use Rattle.command_core.proofs.commands.filter.Goals as goal

pub returns : goal.returns
returns c =
    let has_id = added _ _ _ _ _ c.reading.ensures c.in_ok-arg.ensures c.id.ensures in
    let has_offer = added _ _ _ _ _ has_id c.in_ok-arg-2.ensures c.offer.ensures in
    let has_scheme = added _ _ _ _ _ has_offer c.in_ok-arg-3.ensures c.scheme.ensures in
    let has_lenient = added _ _ _ _ _ has_scheme c.in_ok-arg-4.ensures c.lenient.ensures in
    IfOk-weaker c.arg-5.result _ _ (λ r h. added _ _ _ _ _ has_lenient h c.field.ensures)
    c.arg-5.ensures
