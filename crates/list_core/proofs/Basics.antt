-- Small facts on tests, options and list places.
use Rattle.std.proofs.Common.{ℕ, ◌≡◌, ◌<◌, ◌+◌, ◌⊎◌, inl, inr, List, [], ◌∷◌, Option, Some, None}
use Rattle.std.proofs.Common.{Bool, true, false, length, get_or, drop, refl, sym, ◌∙◌, ap}
use Rattle.std.proofs.Common.{subst, arith, drop-cons, add-one}
use Rattle.std.specs.Prelude.{Result, Ok, Err, IfOk, All, AllPairs, Contains, map, filter}
use Rattle.std.specs.Prelude.{zero, suc}
use Rattle.std.proofs.lemmas.List.{length-map, get_or-map}
use Rattle.std.specs.List.{slice_get}
use Rattle.std.proofs.lemmas.Bool.{cases_Bool}
use Rattle.std.proofs.lemmas.List.Elements.{All-nil, All-cons, All-head, All-tail, Contains-get_or}
use Rattle.std.proofs.lemmas.Option.{slice_get_read, slice_get-get_or, slice_get_within}
use Rattle.std.proofs.lemmas.Option.{get_or_from_slice_get}
use Rattle.list_core.specs.Basics.{IsTheOne}

-- False is not true.
pub false_true : false ≡ true → ⊥
false_true h = cc

-- the element at a place and what follows it
pub element_at : {X : Type 0} (xs : List X) (k : ℕ) (x : X) → k < length xs → x ≡ get_or xs k x
    → drop k xs ≡ x ∷ drop (k + 1) xs
element_at {X = X} xs k x h e =
    let rest : drop k xs ≡ get_or xs k x ∷ drop (k + 1) xs = rw (add-one, drop-cons xs k x) refl in
    rest ∙ ap (λ (y : X). y ∷ drop (k + 1) xs) (sym e)

-- An element that is read at a place within a list is the list's element at that place.
pub stands_at : {X : Type 0} (xs : List X) (k : ℕ) (x : X) → k < length xs → x ≡ get_or xs k x
    → slice_get xs k ≡ Some x
stands_at xs k x low e = slice_get_read xs (length xs) k x refl low e

-- A list has one element at a place.
pub same_at : {X : Type 0} (xs : List X) (k n : ℕ) (x y : X) → k ≡ n → slice_get xs n ≡ Some x
    → slice_get xs k ≡ Some y → y ≡ x
same_at xs k n x y e s t = let u : slice_get xs k ≡ slice_get xs n = ap (slice_get xs) e in cc

-- two relations that give the same numbers
pub the_one : (P Q : ℕ → Type 0) → ((n : ℕ) → P n → Q n) → ((n : ℕ) → Q n → P n) → (r : Option ℕ)
    → IsTheOne r P → IsTheOne r Q
the_one P Q f g None h = λ n q. h n (g n q)
the_one P Q f g (Some n) h = (f n h.0, λ m q. h.1 m (g m q))

-- within a list the default does not matter
pub same_default : {X : Type 0} (xs : List X) (n : ℕ) (d e : X) → n < length xs
    → get_or xs n d ≡ get_or xs n e
same_default xs n d e low = let a = slice_get-get_or xs n d low in let b =
    slice_get-get_or xs n e low in cc

-- what follows for the value
pub if_ok : {A E : Type 0} (P Q : A → Type 0) (r : Result A E) → ((x : A) → P x → Q x) → IfOk r P
    → IfOk r Q
if_ok P Q (Ok x) f h = f x h
if_ok P Q (Err e) f h = h

-- A list contains its first element.
pub contains_first : {X : Type 0} (x : X) (xs : List X) → Contains (x ∷ xs) x
contains_first x xs = (0, omega arith, refl)

-- A list contains whatever its rest contains.
pub contains_later : {X : Type 0} (y x : X) (xs : List X) → Contains xs x → Contains (y ∷ xs) x
contains_later y x xs c = (c.0 + 1, (let low = c.1 in omega arith), rw add-one c.2)

cases_at : {X : Type 0} (x y : X) (xs : List X) (k : ℕ) → k < length (x ∷ xs)
    → get_or (x ∷ xs) k y ≡ y → (x ≡ y) ⊎ Contains xs y
cases_at x y xs zero low e = inl e
cases_at x y xs (suc k) low e = inr (k, omega arith, e)

-- An element of a list is its first one, or one of the rest.
pub contains_cases : {X : Type 0} (x y : X) (xs : List X) → Contains (x ∷ xs) y
    → (x ≡ y) ⊎ Contains xs y
contains_cases x y xs c = cases_at x y xs c.0 c.1 c.2

-- A mapped list contains what each element of the list is mapped to.
pub contains_map : {X Y : Type 0} (f : X → Y) (xs : List X) (x : X) → Contains xs x
    → Contains (map f xs) (f x)
contains_map {X = X} f xs x c = (
  c.0,
  (let size : length (map f xs) ≡ length xs = simp length-map in let low = c.1 in
      omega arith),
  get_or-map f xs c.0 x (f x) c.1 ∙ ap f c.2,
)

-- ---- what holds of each

-- What holds of each element of a list holds of the one at a place.
pub all_at : {X : Type 0} (P : X → Type 0) (xs : List X) (k : ℕ) (x : X) → All P xs
    → slice_get xs k ≡ Some x → P x
all_at P xs k x all s =
    subst P (get_or_from_slice_get xs k x x s) (all k x (slice_get_within xs k x s))

-- Whatever a mapped list contains is what some element of the list is mapped to.
pub contains_from_map : {X Y : Type 0} (f : X → Y) (xs : List X) (y : Y) → Contains (map f xs) y
    → (x : X) × Contains xs x × (f x ≡ y)
contains_from_map f [] y c = absurd (let low = c.1 in omega arith)
contains_from_map f (x ∷ xs) y c =
    let size : length (map f (x ∷ xs)) ≡ length (x ∷ xs) = simp length-map in
    let low : c.0 < length (x ∷ xs) = (let l = c.1 in omega arith) in (
      get_or (x ∷ xs) c.0 x,
      Contains-get_or (x ∷ xs) c.0 x low,
      sym
          (get_or-map f (x ∷ xs) c.0 x y low) ∙ c.2,
    )

-- what passes a test, and so has what follows from that
pub all_passed : {X : Type 0} (P Q : X → Type 0) (p : X → Bool) (xs : List X)
    → ((x : X) → P x → p x ≡ true → Q x) → All P xs → All Q (filter p xs)
all_passed P Q p [] f h = All-nil Q
all_passed P Q p (x ∷ xs) f h = elim (cases_Bool (p x)) [
  | inl e ↦
      rw e (All-cons Q x (filter p xs) (f x (All-head P x xs h) e)
      (all_passed P Q p xs f (All-tail P x xs h)))
  | inr e ↦ rw e (all_passed P Q p xs f (All-tail P x xs h))
]

-- The element at a place is among those that pass a test where it passes.
pub contains_passed : {X : Type 0} (p : X → Bool) (xs : List X) (k : ℕ) (x : X)
    → slice_get xs k ≡ Some x → p x ≡ true → Contains (filter p xs) x
contains_passed p [] k x s t = cc
contains_passed p (y ∷ xs) zero x s t = let e : y ≡ x = cc in let u : p y ≡ true = ap p e ∙ t in
    rw u (subst (Contains (y ∷ filter p xs)) e (contains_first y (filter p xs)))
contains_passed p (y ∷ xs) (suc k) x s t = elim (cases_Bool (p y)) [
  | inl e ↦ rw e (contains_later y x (filter p xs) (contains_passed p xs k x s t))
  | inr e ↦ rw e (contains_passed p xs k x s t)
]

-- Where what each two elements are mapped to is related, each two of the mapped list are related.
pub pairs_map : {X Y : Type 0} (R : Y → Y → Type 0) (f : X → Y) (xs : List X)
    → AllPairs (λ a b. R (f a) (f b)) xs → AllPairs R (map f xs)
pairs_map R f [] h = λ i j d lt low. absurd (omega arith)
pairs_map R f (x ∷ xs) h = λ i j d lt low.
    let size : length (map f (x ∷ xs)) ≡ length (x ∷ xs) = simp length-map in
    let one = get_or-map f (x ∷ xs) i x d (omega arith) in
    let two = get_or-map f (x ∷ xs) j x d (omega arith) in
    rw (one, two) (h i j x lt (omega arith))
