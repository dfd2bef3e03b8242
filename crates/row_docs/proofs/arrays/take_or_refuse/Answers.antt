use Rattle.std.proofs.Common.{append-nil, subst, sym}
use Rattle.json_docs.specs.FaultChecks.{AllPass}
use Rattle.row_docs.proofs.arrays.take_or_refuse.Goals as goal

pub returns-in-Ok : goal.returns-in-Ok
returns-in-Ok g c = λ d start before cut at held.
    let both = c.in-Ok.ensures.ok d start before cut at held in
    (subst AllPass (sym (append-nil _)) both.0, both.1)
