-- What `Eq` asks of the answers of filters.
use Rattle.std.specs.Prelude.{ℕ, List}
use Rattle.std.specs.Cmp.{IsEquivalence, nat_eq_equiv, and_equiv, on_equiv}
use Rattle.std.specs.Cmp.Lexicographic.{nat_list_eq_equiv, lists_equiv, on_texts_equal}
use Rattle.catalogue.specs.EntriesEq.{item_eq, weighed_eq}

-- equality of items is an equivalence
pub item_equiv : IsEquivalence item_eq
item_equiv =
    and_equiv
    (and_equiv (on_texts_equal (λ (x : List ℕ × List (List ℕ) × ℕ). x.0))
    (on_equiv (λ (x : List ℕ × List (List ℕ) × ℕ). x.1) (lists_equiv nat_list_eq_equiv)))
    (on_equiv (λ (x : List ℕ × List (List ℕ) × ℕ). x.2) nat_eq_equiv)

-- equality of answers of filters is an equivalence
pub weighed_equiv : IsEquivalence weighed_eq
weighed_equiv = lists_equiv item_equiv
