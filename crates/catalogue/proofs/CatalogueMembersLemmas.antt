-- Membership by recursion, which inductions follow.
use Rattle.std.proofs.Common.{◌≡◌, ℕ, zero, suc, ◌<◌, Bool, true, false, cond, List, [], ◌∷◌, ◌++◌}
use Rattle.std.proofs.Common.{◌⊎◌, length, get_or, inl, inr, refl, sym, ap, ◌∙◌, subst, arith}
use Rattle.std.specs.Prelude.{Contains, filter}
use Rattle.std.specs.List.{list_all}
use Rattle.lang_core.proofs.Basics.{both}
use Rattle.catalogue.proofs.Basics.{first_so, second_so}

-- x is the first element, or one of the rest
abbrev pub In : {X : Type 0} → List X → X → Type 0
In [] x = ⊥
In (y ∷ ys) x = (y ≡ x) ⊎ In ys x

in_at : {X : Type 0} (xs : List X) (x : X) (k : ℕ) → k < length xs → get_or xs k x ≡ x → In xs x
in_at [] x k lt e = absurd (omega (arith, lt))
in_at (y ∷ ys) x zero lt e = inl e
in_at (y ∷ ys) x (suc k) lt e = inr (in_at ys x k (omega (arith, lt)) e)

-- What a list contains at some place is a member.
pub in_from_Contains : {X : Type 0} (xs : List X) (x : X) → Contains xs x → In xs x
in_from_Contains xs x h = in_at xs x h.0 h.1 h.2

-- A member of a list is at some place in it.
pub Contains-from_in : {X : Type 0} (xs : List X) (x : X) → In xs x → Contains xs x
Contains-from_in [] x h = absurd h
Contains-from_in (y ∷ ys) x h = elim h as (λ _. Contains (y ∷ ys) x) [
  | inl e ↦ (0, omega arith, e)
  | inr r ↦ let c = Contains-from_in ys x r in (suc c.0, omega (arith, c.1), c.2)
]

-- A member of the first list is a member of both appended.
pub in_append_left : {X : Type 0} (xs ys : List X) (x : X) → In xs x → In (xs ++ ys) x
in_append_left [] ys x h = absurd h
in_append_left (y ∷ xs) ys x h =
    elim h as
    (λ _. In (y ∷ (xs ++ ys)) x) [ inl e ↦ inl e | inr r ↦ inr (in_append_left xs ys x r) ]

-- A member of the second list is a member of both appended.
pub in_append_right : {X : Type 0} (xs ys : List X) (x : X) → In ys x → In (xs ++ ys) x
in_append_right [] ys x h = h
in_append_right (y ∷ xs) ys x h = inr (in_append_right xs ys x h)

-- A member of two lists appended is a member of the first or of the second.
pub in_append_cases : {X : Type 0} (xs ys : List X) (x : X) → In (xs ++ ys) x → In xs x ⊎ In ys x
in_append_cases [] ys x h = inr h
in_append_cases (y ∷ xs) ys x h = elim h as (λ _. ((y ≡ x) ⊎ In xs x) ⊎ In ys x) [
  | inl e ↦ inl (inl e)
  | inr r ↦
      elim (in_append_cases xs ys x r) as
      (λ _. ((y ≡ x) ⊎ In xs x) ⊎ In ys x) [ inl a ↦ inl (inr a) | inr b ↦ inr b ]
]

-- A member of the filtered list is a member of the list, and passes the test.
pub in_filter : {X : Type 0} (p : X → Bool) (xs : List X) (x : X) → In (filter p xs) x
    → In xs x × (p x ≡ true)
in_filter p [] x = λ h. absurd h
in_filter p (y ∷ ys) x =
    elim (p y) as
    (λ b. p y ≡ b → In (cond b (y ∷ filter p ys) (filter p ys)) x
    → ((y ≡ x) ⊎ In ys x) × (p x ≡ true)) [
      | true ↦ λ e h. elim h as (λ _. ((y ≡ x) ⊎ In ys x) × (p x ≡ true)) [
        | inl s ↦ (inl s, ap p (sym s) ∙ e)
        | inr r ↦ let k = in_filter p ys x r in (inr k.0, k.1)
      ]
      | false ↦ λ e h. let k = in_filter p ys x h in (inr k.0, k.1)
    ] refl

-- A member that passes the test is a member of the filtered list.
pub filter_in : {X : Type 0} (p : X → Bool) (xs : List X) (x : X) → In xs x → p x ≡ true
    → In (filter p xs) x
filter_in p [] x h e = absurd h
filter_in p (y ∷ ys) x h e = elim h as (λ _. In (cond (p y) (y ∷ filter p ys) (filter p ys)) x) [
  | inl s ↦ subst (λ b. In (cond b (y ∷ filter p ys) (filter p ys)) x) (sym (ap p s ∙ e)) (inl s)
  | inr r ↦
      elim (p y) as
      (λ b. In (cond b (y ∷ filter p ys) (filter p ys)) x) [
        | true ↦
            inr (filter_in p ys x r e)
        | false ↦ filter_in p ys x r e
      ]
]

-- Where all of a list passes a test, each member does.
pub all_in : {X : Type 0} (p : X → Bool) (xs : List X) → list_all p xs ≡ true → (x : X) → In xs x
    → p x ≡ true
all_in p [] h x k = absurd k
all_in p (y ∷ ys) h x k =
    elim k as
    (λ _. p x ≡ true) [
      | inl s ↦ ap p (sym s) ∙ first_so (p y) (list_all p ys) h
      | inr r ↦
          all_in p ys (second_so (p y) (list_all p ys) h) x r
    ]

-- Where each member passes a test, all of the list does.
pub in_all : {X : Type 0} (p : X → Bool) (xs : List X) → ((x : X) → In xs x → p x ≡ true)
    → list_all p xs ≡ true
in_all p [] h = refl
in_all p (y ∷ ys) h =
    both (p y) (list_all p ys) (h y (inl refl)) (in_all p ys (λ x k. h x (inr k)))
