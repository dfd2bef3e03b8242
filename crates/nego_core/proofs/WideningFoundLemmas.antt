-- Widened lookup over a slice of languages.
use Rattle.std.proofs.Common.{ℕ, ◌≡◌, List, Some, None, Option, refl, sym, ◌∙◌, ap}
use Rattle.lang_core.specs.Text.{pieces}
use Rattle.nego_core.proofs.LookupPlacesLemmas.{has_default, same_place, same_text}
use Rattle.nego_core.proofs.WideningLemmas.{one_widened}
use Rattle.list_core.specs.Item.{Item}
use Rattle.nego_core.specs.Widening.{IsFoundWidened, IsLookedUpWidened}
use Rattle.nego_core.specs.declared.lookup_places.Found.{Found}
use Rattle.nego_core.specs.declared.lookup_places.Found.TheVariants.{Matched, Default, Nothing}
use Rattle.list_core.specs.declared.scheme.Scheme.{Scheme}

text_or_none : (s : Scheme) (items : List Item) (langs : List (List ℕ)) (text : List ℕ)
    → IsLookedUpWidened s items langs (Some (pieces text))
    → IsLookedUpWidened s items langs None → ⊥
text_or_none s items langs text f g =
    let e = one_widened s items langs (Some (pieces text)) None f g in cc

-- Widened lookup over a slice of languages has one answer.
pub one_found_widened : (s : Scheme) (items : List Item) (langs : List (List ℕ))
    (default : Option (List ℕ)) (a b : Found) → IsFoundWidened s items langs default a
    → IsFoundWidened s items langs default b → a ≡ b
one_found_widened s items langs default (Matched p) (Matched q) f g =
    ap Matched
    (same_place langs f.0 g.0 p q
    (same_text f.0 g.0
    (one_widened s items langs (Some (pieces f.0)) (Some (pieces g.0)) f.1 g.1)) f.2 g.2)
one_found_widened s items langs default (Matched p) (Default q) f g =
    absurd (text_or_none s items langs f.0 f.1 g.0)
one_found_widened s items langs default (Matched p) Nothing f g =
    absurd (text_or_none s items langs f.0 f.1 g.0)
one_found_widened s items langs default (Default p) (Matched q) f g =
    absurd (text_or_none s items langs g.0 g.1 f.0)
one_found_widened s items langs default (Default p) (Default q) f g =
    ap Default
    (same_place langs f.1.0 g.1.0 p q (let s : Some f.1.0 ≡ Some g.1.0 = sym f.1.1 ∙ g.1.1 in cc)
    f.1.3 g.1.3)
one_found_widened s items langs default (Default p) Nothing f g =
    absurd (g.1 (has_default items langs default f.1.0 f.1.1 f.1.2))
one_found_widened s items langs default Nothing (Matched q) f g =
    absurd (text_or_none s items langs g.0 g.1 f.0)
one_found_widened s items langs default Nothing (Default q) f g =
    absurd (f.1 (has_default items langs default g.1.0 g.1.1 g.1.2))
one_found_widened s items langs default Nothing Nothing f g = refl
