use Rattle.std.proofs.Common.{ℕ, ◌≡◌, List, ◌∷◌, ◌-◌, drop, length}
use Rattle.list_core.specs.inner.PackedTag.{greedy_packed}
use Rattle.list_core.proofs.packed_tag.place_after.Given as goal

abbrev pub invariant-loop-place : goal.invariant-loop-place
invariant-loop-place l =
    (rest : List ℕ)
    → greedy_packed (l.wanted ∷ rest) (drop l.from l.given)
    ≡ greedy_packed (l.wanted ∷ rest) (drop l.place l.given)

abbrev pub decreases-loop-place : goal.decreases-loop-place
decreases-loop-place l = length l.given - l.place
