use Rattle.std.specs.Prelude.{ℕ, ◌≡◌, Bool, IsTrue, List, ◌∷◌, ◌++◌, Option, Some, None, All, ⊤}
use Rattle.std.specs.List.{flat_map}
use Rattle.lang_core.specs.Text.{pieces, joined}
use Rattle.list_core.specs.Item.{Item}
use Rattle.list_core.specs.Candidates.{candidates_of}
use Rattle.list_core.specs.Deciding.{NamedRefuse}
use Rattle.list_core.specs.LookupOrder.{IsOrder}
use Rattle.std.specs.Prelude.{IsSomeAnd}
use Rattle.list_core.specs.Deciding.{IsRefusedLang}
use Rattle.list_core.specs.declared.scheme.Scheme.TheVariants as scheme
use Rattle.nego_core.specs.declared.choosing.Choice.{Choice}
use Rattle.nego_core.specs.declared.choosing.Choice.TheVariants.{Matched, Default, Nothing}

-- the candidates of all items, item by item in their order
abbrev pub all_candidates : List Item → List (List (List ℕ))
all_candidates items = flat_map candidates_of items

-- a candidate is held, and the items other than "*" do not refuse it
abbrev pub IsOpen : List Item → (List ℕ → Bool) → List (List ℕ) → Type 0
IsOpen items held candidate = IsTrue (held (joined candidate)) × ¬ NamedRefuse items candidate

-- where the first of a list is that passes
pub record IsFirst {X : Type 0} (Passes : X → Type 0) (list : List X) (x : X) : Type 0 where
  pub before : List X
  pub after : List X
  pub whole : list ≡ before ++ x ∷ after
  pub none_before : All (λ y. ¬ Passes y) before
  pub passes : Passes x

-- the first of a list that passes, or none where none does
abbrev pub MatchFirstOf : {X : Type 0} → (X → Type 0) → List X → Option X → Type 0
MatchFirstOf Passes list None = All (λ y. ¬ Passes y) list
MatchFirstOf Passes list (Some x) = IsFirst Passes list x

-- RFC 4647 section 3.4: the first candidate of the items, in their order, that is held and not
-- refused
pub record IsLookedUp (items : List Item) (held : List ℕ → Bool)
    (found : Option (List (List ℕ))) : Type 0 where
  pub ordered : List Item
  pub order_ok : IsOrder items ordered
  pub found_is : MatchFirstOf (IsOpen items held) (all_candidates ordered) found

-- a default may be answered where it is held and the whole list, "*" included, does not refuse it
-- (project rule)
abbrev pub IsOpenDefault : List Item → (List ℕ → Bool) → List ℕ → Type 0
IsOpenDefault items held lang = IsTrue (held lang) × ¬ IsRefusedLang scheme.Basic items lang

-- there is a default, and it may be answered (project rule)
abbrev pub HasOpenDefault : List Item → (List ℕ → Bool) → Option (List ℕ) → Type 0
HasOpenDefault items held default = IsSomeAnd default (IsOpenDefault items held)

-- RFC 4647 section 3.4, with the default where no candidate is found
abbrev pub IsChosen : List Item → (List ℕ → Bool) → Option (List ℕ) → Choice → Type 0
IsChosen items held default (Matched text) = IsLookedUp items held (Some (pieces text.now))
IsChosen items held default Default = IsLookedUp items held None × HasOpenDefault items held default
IsChosen items held default Nothing =
    IsLookedUp items held None × ¬ HasOpenDefault items held default

-- the same choice: of one text, of the default, or of nothing
abbrev pub AreSameChoice : Choice → Choice → Type 0
AreSameChoice (Matched text) (Matched other) = text.now ≡ other.now
AreSameChoice Default Default = ⊤
AreSameChoice Nothing Nothing = ⊤
AreSameChoice _ _ = ⊥
