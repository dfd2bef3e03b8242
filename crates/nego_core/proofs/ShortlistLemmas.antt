-- Priority lists cut to some languages.
use Rattle.std.proofs.Common.{ℕ, ◌≡◌, ◌+◌, ◌≤◌, ◌<◌, List, Option, Some, None}
use Rattle.std.proofs.Common.{sym, subst}
use Rattle.std.proofs.Common.{true, drop, get_or, length}
use Rattle.std.specs.Prelude.{IsSomeAnd}
use Rattle.std.specs.Borrow.{Bor}
use Rattle.std.proofs.lemmas.List.{drop_all}
use Rattle.std.proofs.lemmas.List.Elements.{All-nil}
use Rattle.lang_core.specs.Text.{pieces}
use Rattle.list_core.proofs.Basics.{element_at}
use Rattle.nego_core.proofs.ChoosingCandidatesLemmas.{first_here}
use Rattle.nego_core.proofs.ChoosingCandidatesLemmas.{first_later}
use Rattle.nego_core.specs.Filtering.{texts_of}
use Rattle.list_core.specs.Item.{Item}
use Rattle.nego_core.specs.LangSet.{is_among}
use Rattle.nego_core.specs.Choosing.{MatchFirstOf}
use Rattle.nego_core.specs.Choosing.{HasOpenDefault}
use Rattle.nego_core.specs.Shortlist.{IsChosenBy, IsLookedUpBy}
use Rattle.nego_core.specs.declared.choosing.Choice.TheVariants.{Matched, Default, Nothing}
use Rattle.nego_core.specs.declared.widening.Widening.{Widening}
use Rattle.nego_core.specs.declared.widening.Widening.TheVariants.{Off, By}

-- ---- the first that is among some languages

-- the next of the languages that are ranked is one of them
pub lang_here : (P : List ℕ → Type 0) (ranked : List (Bor (List ℕ))) (k : ℕ) (x : Bor (List ℕ))
    → k < length ranked → x ≡ get_or ranked k x → P x.now
    → MatchFirstOf P (texts_of (drop k ranked)) (Some x.now)
lang_here P ranked k x low e p =
    subst (λ (ys : List (Bor (List ℕ))). MatchFirstOf P (texts_of ys) (Some x.now))
    (sym (element_at ranked k x low e)) (first_here P x.now (texts_of (drop (k + 1) ranked)) p)

-- it is none of them
pub lang_passed : (P : List ℕ → Type 0) (ranked : List (Bor (List ℕ))) (k : ℕ) (x : Bor (List ℕ))
    (found : Option (List ℕ)) → k < length ranked → x ≡ get_or ranked k x → ¬ P x.now
    → MatchFirstOf P (texts_of (drop (k + 1) ranked)) found
    → MatchFirstOf P (texts_of (drop k ranked)) found
lang_passed P ranked k x found low e n f =
    subst (λ (ys : List (Bor (List ℕ))). MatchFirstOf P (texts_of ys) found)
    (sym (element_at ranked k x low e))
    (first_later P x.now (texts_of (drop (k + 1) ranked)) found n f)

-- no language is to come
pub langs_over : (P : List ℕ → Type 0) (ranked : List (Bor (List ℕ))) (k : ℕ)
    → length ranked ≤ k → MatchFirstOf P (texts_of (drop k ranked)) None
langs_over P ranked k past =
    subst (λ (ys : List (Bor (List ℕ))). MatchFirstOf P (texts_of ys) None)
    (sym (drop_all k ranked past)) (All-nil (λ l. ¬ P l))

-- ---- what is chosen

-- a default that is open is among the languages
pub default_there : (items : List Item) (langs : List (List ℕ)) (default : Option (List ℕ))
    → HasOpenDefault items (is_among langs) default
    → IsSomeAnd default (λ lang. is_among langs lang ≡ true)
default_there items langs None d = d
default_there items langs (Some lang) d = d.0

-- the language that is found is the choice
pub chosen_match : (w : Widening) (items : List Item) (langs : List (List ℕ))
    (default : Option (List ℕ)) (text : Bor (List ℕ))
    → IsLookedUpBy w items langs (Some (pieces text.now))
    → IsChosenBy w items langs default (Matched text)
chosen_match Off items langs default text f = f
chosen_match (By s) items langs default text f = f

-- where none is found, an open default is
pub chosen_default : (w : Widening) (items : List Item) (langs : List (List ℕ))
    (default : Option (List ℕ)) → IsLookedUpBy w items langs None
    → HasOpenDefault items (is_among langs) default → IsChosenBy w items langs default Default
chosen_default Off items langs default f d = (f, d)
chosen_default (By s) items langs default f d = (f, d)

-- and else nothing is
pub chosen_nothing : (w : Widening) (items : List Item) (langs : List (List ℕ))
    (default : Option (List ℕ)) → IsLookedUpBy w items langs None
    → ¬ HasOpenDefault items (is_among langs) default → IsChosenBy w items langs default Nothing
chosen_nothing Off items langs default f d = (f, d)
chosen_nothing (By s) items langs default f d = (f, d)
