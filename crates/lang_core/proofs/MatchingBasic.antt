-- Basic matching, as a test and as a relation.
use Rattle.std.proofs.Common.{ℕ, ◌≡◌, ◌⊎◌, inl, inr, List, [], ◌∷◌, ◌++◌, Bool, true, false, cond}
use Rattle.std.proofs.Common.{refl, ◌∙◌, ap}
use Rattle.std.specs.Str.{bytes_eq}
use Rattle.std.proofs.lemmas.Slice.Eq.{bytes_eq-Decides}
use Rattle.lang_core.specs.Matching.{Basic, is_front, is_lone_star, is_basic_match}
use Rattle.lang_core.proofs.RangeStars.{star_self, star_only}

either : (b x : Bool) → cond b true x ≡ true → (b ≡ true) ⊎ (x ≡ true)
either true x h = inl refl
either false x h = inr h

of_either : (b x : Bool) → (b ≡ true) ⊎ (x ≡ true) → cond b true x ≡ true
of_either true x h = refl
of_either false x (inl h) = cc
of_either false x (inr h) = h

lone_is : (range : List (List ℕ)) → is_lone_star range ≡ true → range ≡ (42 ∷ []) ∷ []
lone_is [] h = cc
lone_is (s ∷ []) h = ap (λ (x : List ℕ). x ∷ []) (star_only s h)
lone_is (s ∷ t ∷ more) h = cc

both_on : (b x : Bool) → cond b x false ≡ true → (b ≡ true) × (x ≡ true)
both_on true x h = (refl, h)
both_on false x h = cc

front_is : (range tag : List (List ℕ)) → is_front range tag ≡ true
    → (rest : List (List ℕ)) × (tag ≡ range ++ rest)
front_is [] tag h = (tag, refl)
front_is (r ∷ range) [] h = cc
front_is (r ∷ range) (t ∷ tag) h =
    let parts = both_on (bytes_eq r t) (is_front range tag) h in
    let rest = front_is range tag parts.1 in (
      rest.0,
      (let e : r ≡ t = (bytes_eq-Decides r t).0 parts.0 in let f : tag ≡ range ++ rest.0 =
          rest.1 in cc),
    )

front_of : (range rest : List (List ℕ)) → is_front range (range ++ rest) ≡ true
front_of [] rest = refl
front_of (r ∷ range) rest = rw ((bytes_eq-Decides r r).1 refl) (front_of range rest)

-- A range that passes the test of the basic match is "*" or a front of the tag.
pub basic_of_test : (range tag : List (List ℕ)) → is_basic_match range tag ≡ true → Basic range tag
unfolding is_basic_match
basic_of_test range tag h =
    elim (either (is_lone_star range) (is_front range tag) h) [
      | inl e ↦
          inl (lone_is range e)
      | inr e ↦ inr (front_is range tag e)
    ]

-- A range that is "*" or a front of the tag passes the test of the basic match.
pub test_of_basic : (range tag : List (List ℕ)) → Basic range tag → is_basic_match range tag ≡ true
unfolding is_basic_match
test_of_basic range tag (inl e) =
    of_either (is_lone_star range) (is_front range tag) (inl (ap is_lone_star e ∙ star_self))
test_of_basic range tag (inr f) =
    of_either (is_lone_star range) (is_front range tag)
    (inr (ap (is_front range) f.1 ∙ front_of range f.0))
