-- Borrowed lists, item by item.
use Rattle.std.proofs.Common.{◌≡◌, ℕ, ◌+◌, ◌<◌, List, [], ◌∷◌, ◌++◌, length, get_or, take, Option}
use Rattle.std.proofs.Common.{Some, sym, ap, ◌∙◌, refl}
use Rattle.std.specs.Prelude.{slice_get}
use Rattle.std.specs.List.{cons_option}
use Rattle.std.specs.Borrow.{Bor}
use Rattle.std.proofs.lemmas.List.{take_more}
use Rattle.std.proofs.lemmas.List.Elements.{filter_map-append}
use Rattle.std.proofs.lemmas.Option.{get_or_from_slice_get}
use Rattle.nego_core.specs.declared.filtering.Pick.{Pick}
use Rattle.catalogue.specs.Live.{Labelled}
use Rattle.catalogue.specs.Asking.{with_weight, picked}
use Rattle.catalogue.specs.EntriesBorrowed.{weighed_of}

abbrev Lent : Type 0
Lent = Bor (List ℕ) × Bor (List (List ℕ)) × ℕ

abbrev value_of : Lent → List ℕ × List (List ℕ) × ℕ
value_of x = (x.0.now, x.1.now, x.2)

weighed-append : (xs ys : List Lent) → weighed_of (xs ++ ys) ≡ weighed_of xs ++ weighed_of ys
weighed-append [] ys = refl
weighed-append (x ∷ xs) ys = ap (λ zs. value_of x ∷ zs) (weighed-append xs ys)

-- The next item read from a list adds its value to the values before it.
pub weighed_more : (xs : List Lent) (i : ℕ) (e : Lent) → i < length xs → e ≡ get_or xs i e
    → weighed_of (take i xs) ++ value_of e ∷ [] ≡ weighed_of (take (i + 1) xs)
weighed_more xs i e lt is =
    sym (weighed-append (take i xs) (e ∷ []))
    ∙ ap (λ (x : Lent). weighed_of (take i xs ++ x ∷ [])) is
    ∙ ap weighed_of (sym (take_more xs i e lt))

-- The picked language with its label and weight, if there is one at the pick's place.
abbrev pub one_picked : Labelled → Pick → Option (List ℕ × List (List ℕ) × ℕ)
one_picked labels p = with_weight (slice_get labels p.place) p.weight

-- The next pick adds what it gives to what the picks before it give.
pub picked_more : (labels : Labelled) (picks : List Pick) (i : ℕ) (pick : Pick) → i < length picks
    → slice_get picks i ≡ Some pick
    → picked labels (take i picks) ++ cons_option (one_picked labels pick) []
    ≡ picked labels (take (i + 1) picks)
picked_more labels picks i pick lt here =
    sym (ap (picked labels)
    (take_more picks i pick lt
    ∙ ap (λ p. take i picks ++ p ∷ []) (get_or_from_slice_get picks i pick pick here))
    ∙ filter_map-append (one_picked labels) (take i picks) (pick ∷ []))

-- An item pushed to a list adds its value to the list's values.
pub weighed_push : (xs : List Lent) (x : Lent)
    → weighed_of (xs ++ x ∷ []) ≡ weighed_of xs ++ value_of x ∷ []
weighed_push xs x = weighed-append xs (x ∷ [])
