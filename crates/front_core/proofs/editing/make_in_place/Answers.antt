use Rattle.std.proofs.Common.{Option, subst, sym}
use Rattle.front_core.specs.Spare.{IsSpareOf}
use Rattle.front_core.specs.declared.spare.Spare.{Spare}
use Rattle.front_core.proofs.editing.make_in_place.Goals as goal

pub returns-in-Ok-clause-spare : goal.returns-in-Ok-clause-spare
returns-in-Ok-clause-spare c =
    let site = c.args.site.now in
    c.missing_change.ensures site c.args.now c.keys_ascend.ensures
    (subst (λ (o : Option Spare). IsSpareOf site o) (sym c.take.ensures.value) c.requires)
    c.in-Ok.ensures.ok
