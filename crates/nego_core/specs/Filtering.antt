use Rattle.std.specs.Prelude.{ℕ, ◌≡◌, ◌<◌, ◌+◌, ◌-◌, ◌⊎◌, List, [], ◌∷◌, Some, map, IsSorted}
use Rattle.std.specs.Prelude.{IsPermutation, Bool, nat_eq}
use Rattle.std.specs.List.{slice_get}
use Rattle.std.specs.Borrow.{Bor}
use Rattle.std.specs.declared.cmp.Ordering.{Ordering}
use Rattle.std.specs.Ordering.{nat_cmp, on, then_cmp, eq_of_both}
use Rattle.std.specs.Cmp.Lexicographic.{slice_cmp}
use Rattle.list_core.specs.Deciding.{DecidesLang}
use Rattle.list_core.specs.Item.{Item}
use Rattle.list_core.specs.declared.scheme.Scheme.{Scheme}
use Rattle.nego_core.specs.declared.filtering.FilterKey.{FilterKey}
use Rattle.nego_core.specs.declared.filtering.Pick.{Pick}

-- the order of the answer: by missing weight, then the item's place, then the language's bytes,
-- then place (project rule)
abbrev pub filter_key_cmp : FilterKey → FilterKey → Ordering
filter_key_cmp =
    then_cmp (on (λ k. k.missing_weight) nat_cmp)
    (then_cmp (on (λ k. k.item) nat_cmp)
    (then_cmp (on (λ k. k.lang) (slice_cmp nat_cmp)) (on (λ k. k.place) nat_cmp)))

-- what is answered for a key: the language's place, and the weight that is not missing
abbrev pub pick_of : FilterKey → Pick
pick_of k = record { place = k.place; weight = 1000 - k.missing_weight }

-- the key of a language at a place: an item of positive weight decides it
pub record IsKey (scheme : Scheme) (items : List Item) (lang : List ℕ) (place : ℕ)
    (key : FilterKey) : Type 0 where
  pub weight : ℕ
  pub decided : DecidesLang scheme items lang key.item weight
  pub positive : 0 < weight
  pub missing_is : key.missing_weight ≡ 1000 - weight
  pub lang_is : key.lang ≡ lang
  pub place_is : key.place ≡ place

-- no item of positive weight decides the language
abbrev pub HasNoKey : Scheme → List Item → List ℕ → ℕ → Type 0
HasNoKey scheme items lang place = (key : FilterKey) → ¬ IsKey scheme items lang place key

-- the keys of the languages from a place on, of each that has one
abbrev pub AreKeys : Scheme → List Item → ℕ → List (List ℕ) → List FilterKey → Type 0
AreKeys scheme items place [] [] = Unit {0}
AreKeys scheme items place [] (k ∷ keys) = ⊥
AreKeys scheme items place (lang ∷ langs) [] =
    HasNoKey scheme items lang place × AreKeys scheme items (place + 1) langs []
AreKeys scheme items place (lang ∷ langs) (k ∷ keys) =
    (HasNoKey scheme items lang place × AreKeys scheme items (place + 1) langs (k ∷ keys))
    ⊎ (IsKey scheme items lang place k × AreKeys scheme items (place + 1) langs keys)

-- RFC 4647 section 3.3: the languages that an item of positive weight decides, each once, in the
-- order of their keys
pub record IsFiltered (scheme : Scheme) (items : List Item) (langs : List (List ℕ))
    (picks : List Pick) : Type 0 where
  pub all : List FilterKey
  pub keys : List FilterKey
  pub all_ok : AreKeys scheme items 0 langs all
  pub each_once : IsPermutation all keys
  pub ascending : IsSorted filter_key_cmp keys
  pub picks_are : picks ≡ map pick_of keys

-- a language that an item of positive weight decides, by its place, and that weight
pub record IsPicked (scheme : Scheme) (items : List Item) (langs : List (List ℕ))
    (pick : Pick) : Type 0 where
  pub lang : List ℕ
  pub stands : slice_get langs pick.place ≡ Some lang
  pub item : ℕ
  pub decided : DecidesLang scheme items lang item pick.weight
  pub positive : 0 < pick.weight

-- something is picked
abbrev pub HasPick : Scheme → List Item → List (List ℕ) → Type 0
HasPick scheme items langs = (pick : Pick) × IsPicked scheme items langs pick

-- the texts of languages that are borrowed
abbrev pub texts_of : List (Bor (List ℕ)) → List (List ℕ)
texts_of langs = map (λ l. l.now) langs

-- the same place with the same weight
abbrev pub pick_eq : Pick → Pick → Bool
pick_eq = eq_of_both (on (λ p. p.place) nat_eq) (on (λ p. p.weight) nat_eq)
