-- Lookup over a slice of languages.
use Rattle.std.proofs.Common.{ℕ, ◌≡◌, ◌<◌, List, [], ◌∷◌, Some, None, Option, Bool, true, inl, inr}
use Rattle.std.proofs.Common.{length, refl, sym, ◌∙◌, ap, arith}
use Rattle.std.specs.List.{list_any, position_or_len}
use Rattle.std.proofs.lemmas.Bool.{cases_Bool, ltb-false}
use Rattle.lang_core.specs.Text.{pieces, joined}
use Rattle.lang_core.proofs.PiecesLemmas.{joined-pieces}
use Rattle.lang_core.proofs.PiecesLemmas.{cond_none}
use Rattle.nego_core.proofs.ChoosingCandidatesLemmas.{one_lookup}
use Rattle.list_core.specs.Item.{Item}
use Rattle.nego_core.specs.Choosing.{IsLookedUp}
use Rattle.nego_core.specs.Choosing.{IsOpenDefault, HasOpenDefault}
use Rattle.nego_core.specs.LangSet.{is_among}
use Rattle.nego_core.specs.LookupPlaces.{least_place, IsFound}
use Rattle.nego_core.specs.declared.lookup_places.Found.{Found}
use Rattle.nego_core.specs.declared.lookup_places.Found.TheVariants.{Matched, Default, Nothing}

any_place : {X : Type 0} (q : X → Bool) (xs : List X) → list_any q xs ≡ true
    → position_or_len q xs < length xs
any_place q [] h = cc
any_place q (x ∷ xs) h = elim (cases_Bool (q x)) [
  | inl e ↦ rw e (omega arith)
  | inr e ↦ (let rest = any_place q xs (rw e at h) in rw e (omega (arith, rest)))
]

-- a text that is there has a place
pub has_place : (langs : List (List ℕ)) (text : List ℕ) → is_among langs text ≡ true
    → least_place langs text ≡ None → ⊥
has_place langs text h e = let low = any_place _ langs h in let high =
    ltb-false _ _ (cond_none _ _ e) in omega arith

-- ---- lookup among languages has one answer

-- Texts of the same pieces are the same.
pub same_text : (a b : List ℕ) → Some (pieces a) ≡ Some (pieces b) → a ≡ b
same_text a b e = let p : pieces a ≡ pieces b = cc in
    sym (joined-pieces a) ∙ (ap joined p ∙ joined-pieces b)

-- The same text has one least place.
pub same_place : (langs : List (List ℕ)) (a b : List ℕ) (p q : ℕ) → a ≡ b
    → least_place langs a ≡ Some p
    → least_place langs b ≡ Some q → p ≡ q
same_place langs a b p q e f g = let s : Some p ≡ Some q = sym f ∙ (ap (least_place langs) e ∙ g) in
    cc

found_or_none : (items : List Item) (langs : List (List ℕ)) (text : List ℕ)
    → IsLookedUp items (is_among langs) (Some (pieces text))
    → IsLookedUp items (is_among langs) None → ⊥
found_or_none items langs text f g = let e =
    one_lookup items (is_among langs) (Some (pieces text)) None f g in cc

-- A default that is open is there.
pub has_default : (items : List Item) (langs : List (List ℕ)) (default : Option (List ℕ))
    (lang : List ℕ) → default ≡ Some lang → IsOpenDefault items (is_among langs) lang
    → HasOpenDefault items (is_among langs) default
has_default items langs default lang e o = rw e o

-- Lookup over a slice of languages has one answer.
pub one_found : (items : List Item) (langs : List (List ℕ)) (default : Option (List ℕ))
    (a b : Found) → IsFound items langs default a → IsFound items langs default b → a ≡ b
one_found items langs default (Matched p) (Matched q) f g =
    ap Matched
    (same_place langs f.0 g.0 p q
    (same_text f.0 g.0
    (one_lookup items (is_among langs) (Some (pieces f.0)) (Some (pieces g.0)) f.1 g.1)) f.2 g.2)
one_found items langs default (Matched p) (Default q) f g =
    absurd (found_or_none items langs f.0 f.1 g.0)
one_found items langs default (Matched p) Nothing f g =
    absurd (found_or_none items langs f.0 f.1 g.0)
one_found items langs default (Default p) (Matched q) f g =
    absurd (found_or_none items langs g.0 g.1 f.0)
one_found items langs default (Default p) (Default q) f g =
    ap Default
    (same_place langs f.1.0 g.1.0 p q (let s : Some f.1.0 ≡ Some g.1.0 = sym f.1.1 ∙ g.1.1 in cc)
    f.1.3 g.1.3)
one_found items langs default (Default p) Nothing f g =
    absurd (g.1 (has_default items langs default f.1.0 f.1.1 f.1.2))
one_found items langs default Nothing (Matched q) f g =
    absurd (found_or_none items langs g.0 g.1 f.0)
one_found items langs default Nothing (Default q) f g =
    absurd (f.1 (has_default items langs default g.1.0 g.1.1 g.1.2))
one_found items langs default Nothing Nothing f g = refl
