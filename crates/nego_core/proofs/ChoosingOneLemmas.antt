-- There is one choice.
use Rattle.std.proofs.Common.{ℕ, ◌≡◌, List, Option, Some, None, sym, ◌∙◌, ap}
use Rattle.std.specs.Prelude.{Bool}
use Rattle.lang_core.specs.Text.{pieces, joined}
use Rattle.lang_core.proofs.PiecesLemmas.{joined-pieces}
use Rattle.list_core.specs.Item.{Item}
use Rattle.list_core.specs.declared.scheme.Scheme.{Scheme}
use Rattle.nego_core.specs.Choosing.{AreSameChoice, HasOpenDefault, IsChosen, IsLookedUp}
use Rattle.nego_core.specs.LangSet.{is_among}
use Rattle.nego_core.specs.Shortlist.{IsChosenBy}
use Rattle.nego_core.specs.WidenedChoice.{IsChosenWidened}
use Rattle.nego_core.specs.Widening.{IsLookedUpWidened}
use Rattle.nego_core.specs.declared.choosing.Choice.{Choice}
use Rattle.nego_core.specs.declared.choosing.Choice.TheVariants.{Matched, Default, Nothing}
use Rattle.nego_core.specs.declared.widening.Widening.{Widening}
use Rattle.nego_core.specs.declared.widening.Widening.TheVariants.{Off, By}
use Rattle.nego_core.proofs.ChoosingCandidatesLemmas.{one_lookup}
use Rattle.nego_core.proofs.WideningLemmas.{one_widened}

-- a choice by what is found, and by whether there is a default to be answered
abbrev IsChoiceOf : (Option (List (List ℕ)) → Type 0) → Type 0 → Choice → Type 0
IsChoiceOf Finds HasDefault (Matched text) = Finds (Some (pieces text.now))
IsChoiceOf Finds HasDefault Default = Finds None × HasDefault
IsChoiceOf Finds HasDefault Nothing = Finds None × ¬ HasDefault

same_text : (x y : List ℕ) → Some (pieces x) ≡ Some (pieces y) → x ≡ y
same_text x y e =
    let same : pieces x ≡ pieces y = cc in
    sym (joined-pieces x) ∙ (ap joined same ∙ joined-pieces y)

one_of : (Finds : Option (List (List ℕ)) → Type 0) (HasDefault : Type 0)
    → ((f g : Option (List (List ℕ))) → Finds f → Finds g → f ≡ g)
    → (a b : Choice) → IsChoiceOf Finds HasDefault a → IsChoiceOf Finds HasDefault b
    → AreSameChoice a b
one_of Finds HasDefault one (Matched x) (Matched y) f g = same_text x.now y.now (one _ _ f g)
one_of Finds HasDefault one (Matched x) Default f g = let e = one _ _ f g.0 in cc
one_of Finds HasDefault one (Matched x) Nothing f g = let e = one _ _ f g.0 in cc
one_of Finds HasDefault one Default (Matched y) f g = let e = one _ _ f.0 g in cc
one_of Finds HasDefault one Default Default f g = tt
one_of Finds HasDefault one Default Nothing f g = g.1 f.1
one_of Finds HasDefault one Nothing (Matched y) f g = let e = one _ _ f.0 g in cc
one_of Finds HasDefault one Nothing Default f g = f.1 g.1
one_of Finds HasDefault one Nothing Nothing f g = tt

plain : (items : List Item) (held : List ℕ → Bool) (default : Option (List ℕ)) (a : Choice)
    → IsChosen items held default a
    → IsChoiceOf (IsLookedUp items held) (HasOpenDefault items held default) a
plain items held default (Matched text) h = h
plain items held default Default h = h
plain items held default Nothing h = h

widened : (scheme : Scheme) (items : List Item) (langs : List (List ℕ)) (default : Option (List ℕ))
    (a : Choice) → IsChosenWidened scheme items langs default a
    → IsChoiceOf (IsLookedUpWidened scheme items langs)
    (HasOpenDefault items (is_among langs) default) a
widened scheme items langs default (Matched text) h = h
widened scheme items langs default Default h = h
widened scheme items langs default Nothing h = h

-- Lookup with a default chooses one language, the default, or nothing.
pub one_choice : (items : List Item) (held : List ℕ → Bool) (default : Option (List ℕ))
    (a b : Choice) → IsChosen items held default a → IsChosen items held default b
    → AreSameChoice a b
one_choice items held default a b f g =
    one_of (IsLookedUp items held) (HasOpenDefault items held default) (one_lookup items held) a b
    (plain items held default a f) (plain items held default b g)

-- Widened lookup with a default chooses one language, the default, or nothing.
pub one_widened_choice : (scheme : Scheme) (items : List Item) (langs : List (List ℕ))
    (default : Option (List ℕ)) (a b : Choice) → IsChosenWidened scheme items langs default a
    → IsChosenWidened scheme items langs default b → AreSameChoice a b
one_widened_choice scheme items langs default a b f g =
    one_of (IsLookedUpWidened scheme items langs) (HasOpenDefault items (is_among langs) default)
    (one_widened scheme items langs) a b (widened scheme items langs default a f)
    (widened scheme items langs default b g)

-- A shortlist chooses one language, the default, or nothing.
pub one_choice_by : (widening : Widening) (items : List Item) (langs : List (List ℕ))
    (default : Option (List ℕ)) (a b : Choice) → IsChosenBy widening items langs default a
    → IsChosenBy widening items langs default b → AreSameChoice a b
one_choice_by Off items langs = one_choice items (is_among langs)
one_choice_by (By scheme) items langs = one_widened_choice scheme items langs
