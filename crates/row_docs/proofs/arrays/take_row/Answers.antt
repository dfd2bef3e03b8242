use Rattle.std.proofs.Common.{inl}
use Rattle.json_docs.proofs.ObjectMembersLemmas.{both_weaker}
use Rattle.row_docs.proofs.arrays.take_row.Goals as goal

pub returns-clause-read : goal.returns-clause-read
returns-clause-read g c =
    let row = c.in_ok-row.ensures.read in
    both_weaker c.take_or_refuse.result _ _ _ _ c.take_or_refuse.ensures
    (λ refusal h. (row.0, row.1, λ start before at held. h row.0 start before row.2 at held))
    (λ e memory. inl memory)
