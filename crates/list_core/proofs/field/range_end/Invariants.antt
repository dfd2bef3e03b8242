use Rattle.std.proofs.Common.{◌≡◌, true, take}
use Rattle.std.specs.List.{list_all}
use Rattle.list_core.specs.inner.Field.{is_inner}
use Rattle.list_core.proofs.field.range_end.Given as goal

abbrev pub invariant-loop-end : goal.invariant-loop-end
invariant-loop-end l = list_all is_inner (take l.end l.text) ≡ true
