-- The keys of a list's items.
use Rattle.std.proofs.Common.{ℕ, ◌≡◌, List, [], ◌∷◌, ◌++◌, false, refl, ◌∙◌, ap, arith}
use Rattle.std.specs.Prelude.{Bool, not, ◌≢◌, ◌==◌}
use Rattle.std.specs.Str.{bytes_eq}
use Rattle.std.proofs.lemmas.Bool.Decides.{nat_tests}
use Rattle.lang_core.specs.Text.{pieces, joined}
use Rattle.lang_core.specs.Grammar.{is_star}
use Rattle.lang_core.specs.LookupText.{lookup_text}
use Rattle.lang_core.specs.Matching.{as_basic, is_lone_star}
use Rattle.list_core.specs.Item.{Item}
use Rattle.list_core.specs.LookupOrder.{is_tried}

-- ---- whether an item is tried

star_text : (list : List (List ℕ)) → bytes_eq (joined list) (42 ∷ []) ≡ is_lone_star list
unfolding is_star
star_text [] = refl
star_text ([] ∷ []) = refl
star_text ((b ∷ []) ∷ []) = grind arith
star_text ((b ∷ c ∷ s) ∷ []) = grind arith
star_text ([] ∷ t ∷ list) = grind (arith, nat_tests)
star_text ((b ∷ s) ∷ t ∷ list) =
    not_one b (s ++ 45 ∷ joined (t ∷ list)) (longer s (joined (t ∷ list))) where
      longer : (s rest : List ℕ) → (s ++ 45 ∷ rest ≡ []) → ⊥
      longer [] rest h = cc
      longer (c ∷ s) rest h = cc

      not_one : (b : ℕ) (rest : List ℕ) → (rest ≡ [] → ⊥) → bytes_eq (b ∷ rest) (42 ∷ []) ≡ false
      not_one b [] some = absurd (some refl)
      not_one b (c ∷ rest) some = grind arith

-- An item of positive weight is tried just where its lookup text is not "*".
pub tried_is : (i : Item) (text : List ℕ) (r : Bool) → text ≡ lookup_text i.range
    → r ≡ not (bytes_eq text (42 ∷ [])) → i.weight ≢ 0 → r ≡ is_tried i
tried_is i text r e d w =
    let star : bytes_eq text (42 ∷ []) ≡ is_lone_star (as_basic (pieces i.range)) =
    ap (λ (x : List ℕ). bytes_eq x (42 ∷ [])) e ∙ star_text (as_basic (pieces i.range)) in
    let positive : (i.weight == 0) ≡ false = grind (arith, nat_tests) in
    d ∙ (ap not star ∙ rw positive refl)
