-- The later of two, by a mark that is totally ordered, as a stamp.
use Rattle.std.specs.Prelude.{◌≡◌, cond, ◌⊎◌}
use Rattle.std.specs.declared.cmp.Ordering.{Ordering}
use Rattle.std.specs.Ordering.{is_lt}

-- the one with the greater mark, and the first where none is greater (the last-writer-wins register
-- of INRIA RR-7506, 3.2.1)
abbrev pub later_by : {X S : Type 0} → (X → S) → (S → S → Ordering) → X → X → X
later_by mark cmp a b = cond (is_lt (cmp (mark a) (mark b))) b a

-- x is the first, or the join
abbrev pub IsEitherOf : {X : Type 0} → (X → X → X) → X → X → X → Type 0
IsEitherOf joined a x b = (x ≡ a) ⊎ (x ≡ joined a b)
