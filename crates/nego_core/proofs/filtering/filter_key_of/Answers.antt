use Rattle.std.proofs.Common.{refl}
use Rattle.nego_core.proofs.FilteringKeys.{has_key, no_decision, no_weight}
use Rattle.nego_core.proofs.filtering.filter_key_of.Goals as goal
use Rattle.nego_core.proofs.filtering.filter_key_of.Goals.{in_default-via-in-Some+else-found-gt0}
use Rattle.nego_core.proofs.filtering.filter_key_of.Goals.{in_default-via-in_default}

pub returns-in-Some : goal.returns-in-Some
returns-in-Some c =
    rw (c.new.ensures, c.as_str.ensures.text)
    (has_key _ _ _ _ _ _ _ c.in-Some.ensures.decides c.if-found-gt0.true refl)

pub returns-in_default : goal.returns-in_default
returns-in_default c = (elim c.in_default.branch [
  | in_default-via-in-Some+else-found-gt0 w ↦
      no_weight _ _ _ _ _ _ w.in-Some.ensures.decides w.if-found-gt0.false
  | in_default-via-in_default w ↦ no_decision _ _ _ _ w.in_default.ensures.decides
])
