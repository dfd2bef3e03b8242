use Rattle.std.proofs.Common.{inr, refl}
use Rattle.docs_core.proofs.call.sites.first_refusal.Goals as goal

-- document 1 is read
pub returns-in-Ok : goal.returns-in-Ok
returns-in-Ok c =
    let show = c.in-Ok.ensures in
    inr (inr (record { name = c.in-Ok.field-0.0; cells = show.0 }, show.1, refl))
