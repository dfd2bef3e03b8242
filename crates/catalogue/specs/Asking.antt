-- What a catalogue answers to a priority list: RFC 4647 over the live labels of a message.
use Rattle.std.specs.Prelude.{◌≡◌, ℕ, List, Option, Some, None, slice_get}
use Rattle.std.specs.List.{filter_map}
use Rattle.std.specs.FinMap.Entries.{find}
use Rattle.lang_core.specs.Text.{pieces}
use Rattle.list_core.specs.Item.{Item}
use Rattle.nego_core.specs.declared.filtering.Pick.{Pick}
use Rattle.list_core.specs.declared.scheme.Scheme.{Scheme}
use Rattle.nego_core.specs.declared.widening.Widening.{Widening}
use Rattle.nego_core.specs.declared.widening.Widening.TheVariants.{Off, By}
use Rattle.nego_core.specs.Filtering.{IsFiltered}
use Rattle.nego_core.specs.Choosing.{IsLookedUp}
use Rattle.nego_core.specs.Choosing.{HasOpenDefault}
use Rattle.nego_core.specs.Widening.{IsLookedUpWidened}
use Rattle.catalogue.specs.declared.reply.Reply.{Reply}
use Rattle.catalogue.specs.declared.reply.Reply.TheVariants.{Matched, Default, Nothing}
use Rattle.cell_core.specs.Entry.{text_cmp}
use Rattle.catalogue.specs.Entries.{Entries}
use Rattle.catalogue.specs.Live.{Labelled, live, languages, is_live}

-- languages with their labels and weights
abbrev pub Weighed : Type 0
Weighed = List (List ℕ × List (List ℕ) × ℕ)

-- a language with its label, and a weight
abbrev pub with_weight : Option (List ℕ × List (List ℕ)) → ℕ → Option (List ℕ × List (List ℕ) × ℕ)
with_weight None weight = None
with_weight (Some x) weight = Some (x.0, x.1, weight)

-- each place replaced by its language and label, with its weight
abbrev pub picked : Labelled → List Pick → Weighed
picked labels picks = filter_map (λ p. with_weight (slice_get labels p.place) p.weight) picks

-- RFC 4647 sections 3.3.1 and 3.3.2: the languages of the labels that the list takes, in its order
pub record IsFilteredOf (labels : Labelled) (scheme : Scheme) (items : List Item)
    (answer : Weighed) : Type 0 where
  pub picks : List Pick
  pub filtered : IsFiltered scheme items (languages labels) picks
  pub answer_is : answer ≡ picked labels picks

-- what lookup finds among the languages of the labels: by RFC 4647 section 3.4, or widened under a
-- scheme (project rule)
abbrev pub Finds : Widening → Labelled → List Item → Option (List (List ℕ)) → Type 0
Finds Off labels items = IsLookedUp items (is_live labels)
Finds (By scheme) labels items = IsLookedUpWidened scheme items (languages labels)

-- the language found, or the default where that is live (project rule), with its label
abbrev pub IsLookedUpIn : Widening → Labelled → List Item → Option (List ℕ) → Reply → Type 0
IsLookedUpIn widening labels items default (Matched lang label) =
    Finds widening labels items (Some (pieces lang)) × (find text_cmp lang labels ≡ Some label)
IsLookedUpIn widening labels items default (Default lang label) =
    Finds widening labels items None × HasOpenDefault items (is_live labels) default
    × (default ≡ Some lang) × (find text_cmp lang labels ≡ Some label)
IsLookedUpIn widening labels items default Nothing =
    Finds widening labels items None × ¬ (HasOpenDefault items (is_live labels) default)

-- the same by RFC 4647 section 3.4
abbrev pub IsLookedUpOf : Labelled → List Item → Option (List ℕ) → Reply → Type 0
IsLookedUpOf = IsLookedUpIn Off

-- what a filter answers of a message: RFC 4647 section 3.3 over its live labels
abbrev pub IsFilterAnswer : Entries → List ℕ → Scheme → List Item → Weighed → Type 0
IsFilterAnswer cells id scheme items answer = IsFilteredOf (live cells id) scheme items answer

-- what lookup answers of a message: by RFC 4647 section 3.4, or widened under a scheme (project
-- rule)
abbrev pub IsLookupAnswerBy : Widening → Entries → List ℕ → List Item → Option (List ℕ) → Reply
    → Type 0
IsLookupAnswerBy widening cells id items default reply =
    IsLookedUpIn widening (live cells id) items default reply

-- what lookup answers of a message by RFC 4647 section 3.4
abbrev pub IsLookupAnswer : Entries → List ℕ → List Item → Option (List ℕ) → Reply → Type 0
IsLookupAnswer = IsLookupAnswerBy Off
