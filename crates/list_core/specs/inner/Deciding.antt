-- The better of two items that match.
use Rattle.std.specs.Prelude.{ℕ, Bool, Some, ◌==◌, ◌&&◌, ◌||◌, nat_lt, true, Option, None}
use Rattle.std.specs.Prelude.{if◌then◌else◌}
use Rattle.list_core.specs.declared.deciding.MostSpecific.{MostSpecific}

-- the other has more subtags other than "*", or as many and an earlier place
abbrev pub is_worse : MostSpecific → MostSpecific → Bool
is_worse best other =
    nat_lt best.specificity other.specificity ||
    ((best.specificity == other.specificity) && nat_lt other.place best.place)

-- the better of two that may be absent; the first where neither is
abbrev pub better_of : Option MostSpecific → Option MostSpecific → Option MostSpecific
better_of None other = other
better_of (Some best) None = Some best
better_of (Some best) (Some other) = if is_worse best other then Some other else Some best

-- more subtags than the best
abbrev pub is_above : Option MostSpecific → ℕ → Bool
is_above None n = true
is_above (Some best) n = nat_lt best.specificity n
