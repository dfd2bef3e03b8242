-- Items of a priority list, and when they are equal.
use Rattle.std.specs.Prelude.{ℕ, ◌<◌, List, [], ◌∷◌, Bool, nat_eq, All, Option}
use Rattle.std.specs.Ordering.{on, eq_of_both}
use Rattle.std.specs.Cmp.Lexicographic.{pointwise}
use Rattle.std.specs.Option.{option_eq}

-- a range, by its text, with its weight in thousandths, and the texts that lookup tries in place of
-- the range and its truncations, if a table of fallbacks lists them
pub record Item : Type 0 where
  pub range : List ℕ
  pub weight : ℕ
  pub listed : Option (List (List ℕ))

-- the same range with the same weight, for which lookup tries the same texts
abbrev pub item_eq : Item → Item → Bool
item_eq =
    eq_of_both
    (eq_of_both (on (λ i. i.range) (pointwise nat_eq)) (on (λ i. i.weight) nat_eq))
    (on (λ i. i.listed) (option_eq (pointwise (pointwise nat_eq))))

-- the first byte of the first subtag, or 0 where that is empty
abbrev pub first_byte : List (List ℕ) → ℕ
first_byte [] = 0
first_byte ([] ∷ more) = 0
first_byte ((b ∷ s) ∷ more) = b

-- no weight is 0
abbrev pub AllPositive : List Item → Type 0
AllPositive items = All (λ i. 0 < i.weight) items
