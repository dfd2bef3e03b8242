-- The catalogue of a list: it has the best edits, and depends on the members alone.
use Rattle.std.proofs.Common.{◌≡◌, true, false, cond, List, [], ◌∷◌, Option, Some, None, inl, inr}
use Rattle.std.proofs.Common.{refl, sym, ap, ◌∙◌, true≢false}
use Rattle.std.specs.Prelude.{filter}
use Rattle.std.specs.Ordering.{eq_by_cmp}
use Rattle.std.specs.FinMap.Entries.{find, is_sorted-put, find-put}
use Rattle.cell_core.specs.declared.cell.Cell.{Cell}
use Rattle.cell_core.specs.Keyed.{IsMap}
use Rattle.cell_core.specs.inner.KeyedLaws.{same_maps}
use Rattle.cell_core.specs.Entry.{EntryKey, key_cmp}
use Rattle.cell_core.specs.inner.Entry.{key_cmp_total, key_cmp_exact}
use Rattle.catalogue.specs.Entries.{Entry}
use Rattle.catalogue.specs.Edits.{IsBest, is_best, entries_of, catalogue_of, IsSettled, SameMembers}
use Rattle.catalogue.proofs.Basics.{some_same}
use Rattle.catalogue.proofs.CatalogueMembersLemmas.{In, in_filter, filter_in}
use Rattle.catalogue.proofs.CatalogueBestLemmas.{same_key, own_key, best_is, is_best_of, best_in}
use Rattle.catalogue.proofs.CatalogueBestLemmas.{best_same}
use Rattle.catalogue.proofs.CatalogueBestLemmas.{has_best}

entries_of-IsMap : (es : List Entry) → IsMap key_cmp (entries_of es)
entries_of-IsMap [] = tt
entries_of-IsMap (e ∷ es) =
    is_sorted-put key_cmp key_cmp_total e.0 e.1 (entries_of es) (entries_of-IsMap es)

-- The keys of the catalogue of a list of edits strictly ascend.
pub catalogue_of-IsMap : (xs : List Entry) → IsMap key_cmp (catalogue_of xs)
catalogue_of-IsMap xs = entries_of-IsMap (filter (is_best xs) xs)

find-entries_of : (e : Entry) (es : List Entry) (k : EntryKey)
    → find key_cmp k (entries_of (e ∷ es))
    ≡ cond (eq_by_cmp key_cmp k e.0) (Some e.1) (find key_cmp k (entries_of es))
find-entries_of e es k = find-put key_cmp key_cmp_total k e.0 e.1 (entries_of es)

-- what is found at a key is the cell of an edit of that key
found : (es : List Entry) (k : EntryKey) (c : Cell) → find key_cmp k (entries_of es) ≡ Some c
    → In es (k, c)
found [] k c h = absurd (cc)
found (e ∷ es) k c h =
    elim (eq_by_cmp key_cmp k e.0) as
    (λ t. eq_by_cmp key_cmp k e.0 ≡ t
    → cond t (Some e.1) (find key_cmp k (entries_of es)) ≡ Some c → In (e ∷ es) (k, c)) [
      | true ↦ λ t is. inl (λ i. (sym (same_key k e.0 t) i, some_same e.1 c is i))
      | false ↦ λ t is. inr (found es k c is)
    ] refl (sym (find-entries_of e es k) ∙ h)

-- at the key of an edit something is found
finds : (es : List Entry) (k : EntryKey) (c : Cell) → In es (k, c)
    → (d : Cell) × (find key_cmp k (entries_of es) ≡ Some d)
finds [] k c h = absurd h
finds (e ∷ es) k c h =
    elim (eq_by_cmp key_cmp k e.0) as
    (λ t. eq_by_cmp key_cmp k e.0 ≡ t
    → (d : Cell) × (find key_cmp k (entries_of (e ∷ es)) ≡ Some d)) [
      | true ↦
          λ t. (
            e.1,
            find-entries_of e es k
                ∙ ap (λ b. cond b (Some e.1) (find key_cmp k (entries_of es))) t,
          )
      | false ↦ λ t. elim h as (λ _. (d : Cell) × (find key_cmp k (entries_of (e ∷ es)) ≡ Some d)) [
        | inl s ↦
            absurd
            (true≢false (sym (own_key k) ∙ ap (λ (x : Entry). eq_by_cmp key_cmp k x.0) (sym s) ∙ t))
        | inr r ↦ let d = finds es k c r in (
          d.0,
          find-entries_of e es k
              ∙ ap (λ b. cond b (Some e.1) (find key_cmp k (entries_of es))) t ∙ d.1,
        )
      ]
    ] refl

-- what the catalogue has is best
pub found_best : (xs : List Entry) (k : EntryKey) (c : Cell)
    → find key_cmp k (catalogue_of xs) ≡ Some c → IsBest xs k c
found_best xs k c h = let g =
    in_filter (is_best xs) xs (k, c) (found (filter (is_best xs) xs) k c h) in
    best_is xs k c g.0 g.1

-- where the list has an edit of a key, its catalogue has a cell
pub has_cell : (xs : List Entry) (k : EntryKey) (c : Cell) → In xs (k, c)
    → (d : Cell) × (find key_cmp k (catalogue_of xs) ≡ Some d)
has_cell xs k c h =
    let b = has_best xs k c h in
    finds (filter (is_best xs) xs) k b.0
    (filter_in (is_best xs) xs (k, b.0) (best_in xs k b.0 b.1) (is_best_of xs k b.0 b.1))

-- the best edit of a settled list is what its catalogue has
pub best_found : (xs : List Entry) → IsSettled xs → (k : EntryKey) (c : Cell) → IsBest xs k c
    → find key_cmp k (catalogue_of xs) ≡ Some c
best_found xs settled k c best =
    let d = has_cell xs k c (best_in xs k c best) in
    d.1 ∙ ap Some (settled k d.0 c (found_best xs k d.0 d.1) best)

-- Where the catalogue has no cell of a key, the list has no edit of it.
pub none_in : (xs : List Entry) (k : EntryKey) → find key_cmp k (catalogue_of xs) ≡ None
    → (c : Cell) → In xs (k, c) → ⊥
none_in xs k none c h = let d = has_cell xs k c h in let same : Some d.0 ≡ None = sym d.1 ∙ none in
    cc

-- two that are there alike are one
pub same_option : {X : Type 0} (a b : Option X) → ((x : X) → a ≡ Some x → b ≡ Some x)
    → ((x : X) → b ≡ Some x → a ≡ Some x) → a ≡ b
same_option None None f g = refl
same_option None (Some y) f g = g y refl
same_option (Some x) b f g = sym (f x refl)

turned : (xs ys : List Entry) → SameMembers xs ys → SameMembers ys xs
turned xs ys same e = ((same e).1, (same e).0)

-- lists with the same members are settled alike
pub same_settled : (xs ys : List Entry) → IsSettled xs → SameMembers xs ys → IsSettled ys
same_settled xs ys settled same k c d p q =
    settled k c d (best_same ys xs (turned xs ys same) k c p)
    (best_same ys xs (turned xs ys same) k d q)

-- Settled lists with the same members have the same catalogue.
pub same_catalogue : (xs ys : List Entry) → IsSettled xs → SameMembers xs ys
    → catalogue_of xs ≡ catalogue_of ys
same_catalogue xs ys settled same =
    same_maps key_cmp key_cmp_total key_cmp_exact (catalogue_of xs) (catalogue_of ys)
    (catalogue_of-IsMap xs) (catalogue_of-IsMap ys)
    (λ k. same_option (find key_cmp k (catalogue_of xs)) (find key_cmp k (catalogue_of ys))
    (λ c h. best_found ys (same_settled xs ys settled same) k c
    (best_same xs ys same k c (found_best xs k c h)))
    (λ c h. best_found xs settled k c
    (best_same ys xs (turned xs ys same) k c (found_best ys k c h))))
