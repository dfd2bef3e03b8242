-- The last key of a catalogue, and keys above it.
use Rattle.std.specs.Prelude.{◌↔◌, IsTrue, slice_get}
use Rattle.std.proofs.Common.{◌≡◌, ℕ, suc, ◌+◌, ◌-◌, List, [], ◌∷◌, length, get_or, true, Some}
use Rattle.std.proofs.Common.{None, refl, sym, ap, ◌∙◌, subst, arith, inl, inr}
use Rattle.std.specs.Option.{option_map}
use Rattle.std.specs.Ordering.{is_lt}
use Rattle.std.specs.declared.cmp.Ordering.TheVariants.{Less}
use Rattle.std.proofs.lemmas.Bool.{cases_lt}
use Rattle.std.proofs.lemmas.Option.{slice_get-get_or, slice_get_within, get_or_from_slice_get}
use Rattle.cell_core.specs.declared.cell.Cell.{Cell}
use Rattle.cell_core.specs.Keyed.{IsMap}
use Rattle.cell_core.specs.Entry.{EntryKey, text_cmp, key_cmp}
use Rattle.cell_core.specs.inner.Entry.{key_cmp_total}
use Rattle.catalogue.specs.Entries.{IsAboveAll}
use Rattle.catalogue.specs.CatalogueFlat.{flat, IsInner}
use Rattle.catalogue.specs.CatalogueNested.{Nested, IsCatalogue}
use Rattle.lang_core.proofs.Basics.{less_of}
use Rattle.catalogue.proofs.CatalogueLengthsLemmas.{length-flat-cons}
use Rattle.catalogue.proofs.PlacesSearchLemmas.{sorted_get}
use Rattle.catalogue.proofs.PlacesNestedLemmas.{with_outer, place_within, place_behind}

module _ {K L J : Type 0} where
  -- the last entry of the last inner map is the last of all
  pub last_of_all : (m : List (K × List (L × J))) (k : K) (inner : List (L × J)) (l : L) (v : J)
      → slice_get m (length m - 1) ≡ Some (k, inner)
      → slice_get inner (length inner - 1) ≡ Some (l, v)
      → slice_get (flat m) (length (flat m) - 1) ≡ Some ((k, l), v)
  last_of_all [] k inner l v = λ is at. absurd (cc)
  last_of_all (e ∷ []) k inner l v = λ is at.
      let same : e ≡ (k, inner) = cc in
      let within = slice_get_within inner (length inner - 1) (l, v) at in
      let place : length (flat ((k, inner) ∷ [])) - 1 ≡ length inner - 1 =
      omega (arith, length-flat-cons k inner []) in
      subst (λ x. slice_get (flat (x ∷ [])) (length (flat (x ∷ [])) - 1) ≡ Some ((k, l), v))
      (sym same)
      (ap (slice_get (flat ((k, inner) ∷ []))) place
      ∙ place_within k inner [] (length inner - 1) within ∙ ap (option_map (with_outer k)) at)
  last_of_all (e ∷ f ∷ m) k inner l v = λ is at.
      let step : length (e ∷ f ∷ m) - 1 ≡ suc (length (f ∷ m) - 1) = omega arith in
      let rest = last_of_all (f ∷ m) k inner l v (ap (slice_get (e ∷ f ∷ m)) (sym step) ∙ is) at in
      let within = slice_get_within (flat (f ∷ m)) (length (flat (f ∷ m)) - 1) ((k, l), v) rest in
      let place : length (flat (e ∷ f ∷ m)) - 1 ≡ length e.1 + (length (flat (f ∷ m)) - 1) =
      omega (arith, within, length-flat-cons e.0 e.1 (f ∷ m)) in
      ap (slice_get (flat (e ∷ f ∷ m))) place
      ∙ place_behind e.0 e.1 (f ∷ m) (length e.1 + (length (flat (f ∷ m)) - 1))
      (length (flat (f ∷ m)) - 1) refl ∙ rest

-- a list without a last item is empty
pub no_last : {X : Type 0} (xs : List X) → slice_get xs (length xs - 1) ≡ None → xs ≡ []
no_last [] = λ e. refl
no_last (x ∷ xs) = λ e. let some =
    slice_get-get_or (x ∷ xs) (length (x ∷ xs) - 1) x (omega arith) in absurd (cc)

-- the last inner map is not empty
pub last_is_some : (m : Nested) (k : List ℕ) (inner : List (List ℕ × Cell)) → IsCatalogue m
    → slice_get m (length m - 1) ≡ Some (k, inner) → slice_get inner (length inner - 1) ≡ None → ⊥
last_is_some m k inner nested is none =
    let at = length m - 1 in
    let e : List ℕ × List (List ℕ × Cell) = (k, inner) in
    let whole =
    subst (λ (x : List ℕ × List (List ℕ × Cell)). IsInner text_cmp x.1)
    (get_or_from_slice_get m at e e is) (nested.inners at e (slice_get_within m at e is)) in
    let empty = no_last inner none in
    omega (arith, whole.some, ap length empty)

module _ {J : Type 0} where
  abbrev entry_key : EntryKey × J → EntryKey
  entry_key e = e.0

  abbrev entry_value : EntryKey × J → J
  entry_value e = e.1

module _ {J : Type 0} (es : List (EntryKey × J)) (key : EntryKey) where
  -- a key above the last key is above all
  pub above_last : (k : EntryKey) (v : J) → IsMap key_cmp es
      → slice_get es (length es - 1) ≡ Some (k, v) → IsTrue (is_lt (key_cmp k key))
      ↔ IsAboveAll key es
  above_last k v sorted at =
      let last = length es - 1 in (
        λ lt. λ i d within. elim (cases_lt i last) as
            (λ _. key_cmp (entry_key (get_or es i d)) key ≡ Less) [
              | inl before ↦
                  key_cmp_total.trans (entry_key (get_or es i d)) k key
                  (sorted_get key_cmp key_cmp_total es i (length es - 1) (entry_key (get_or es i d))
                  k
                  (entry_value (get_or es i d)) v sorted before (slice_get-get_or es i d within) at)
                  (less_of (key_cmp k key) lt)
              | inr ge ↦
                  let same : i ≡ length es - 1 = omega (arith, within, ge) in
                  subst (λ (x : EntryKey × J). key_cmp x.0 key ≡ Less)
                  (sym (ap (λ n. get_or es n d) same
                  ∙ get_or_from_slice_get es (length es - 1) (k, v) d at))
                  (less_of (key_cmp k key) lt)
            ],
        λ all.
            ap is_lt
            (subst (λ (x : EntryKey × J). key_cmp x.0 key ≡ Less)
            (get_or_from_slice_get es (length es - 1) (k, v) (k, v) at)
            (all (length es - 1) (k, v) (slice_get_within es (length es - 1) (k, v) at))),
      )

  -- where there is no last key, each is above all
  pub above_none : slice_get es (length es - 1) ≡ None → IsTrue true ↔ IsAboveAll key es
  above_none none = (
    λ t. subst (λ (xs : List (EntryKey × J)). IsAboveAll key xs) (sym (no_last es none))
        (λ i d within. absurd (omega (arith, within))),
    λ all. refl,
  )
