-- The subtag "*".
use Rattle.std.proofs.Common.{ℕ, ◌≡◌, List, [], ◌∷◌, true, false, refl, ap, arith}
use Rattle.std.proofs.lemmas.Bool.Decides.{nat_tests}
use Rattle.lang_core.specs.Grammar.{is_star}
use Rattle.lang_core.specs.Matching.{without_stars}

-- The text of the byte 42 is "*".
pub star_self : is_star (42 ∷ []) ≡ true
unfolding is_star
star_self = refl

-- A subtag that is "*" is the text of the byte 42.
pub star_only : (s : List ℕ) → is_star s ≡ true → s ≡ 42 ∷ []
unfolding is_star
star_only [] h = cc
star_only (b ∷ []) h = let e : b ≡ 42 = grind (arith, nat_tests) in ap (λ (x : ℕ). x ∷ []) e
star_only (b ∷ c ∷ s) h = cc

-- A first subtag that is not "*" is kept where each "*" is left out.
pub star_kept : (s : List ℕ) (list : List (List ℕ)) → is_star s ≡ false
    → without_stars (s ∷ list) ≡ s ∷ without_stars list
star_kept s list h = rw h refl

-- A first subtag "*" is dropped where each "*" is left out.
pub star_dropped : (s : List ℕ) (list : List (List ℕ)) → is_star s ≡ true
    → without_stars (s ∷ list) ≡ without_stars list
star_dropped s list h = rw h refl
