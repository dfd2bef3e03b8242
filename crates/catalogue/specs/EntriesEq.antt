-- When answers of filters are equal.
use Rattle.std.specs.Prelude.{Bool, ℕ, List, nat_eq}
use Rattle.std.specs.Ordering.{on, eq_of_both}
use Rattle.std.specs.Cmp.Lexicographic.{pointwise}
use Rattle.catalogue.specs.Asking.{Weighed}

-- the same language, the same texts and the same weight
abbrev pub item_eq : List ℕ × List (List ℕ) × ℕ → List ℕ × List (List ℕ) × ℕ → Bool
item_eq =
    eq_of_both
    (eq_of_both (on (λ x. x.0) (pointwise nat_eq)) (on (λ x. x.1) (pointwise (pointwise nat_eq))))
    (on (λ x. x.2) nat_eq)

-- the same items in the same order
abbrev pub weighed_eq : Weighed → Weighed → Bool
weighed_eq = pointwise item_eq
