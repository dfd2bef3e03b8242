-- The catalogue of two lists, one after the other, is the join of theirs.
use Rattle.std.proofs.Common.{◌≡◌, true, false, cond, List, ◌++◌, Option, Some, None, inl, inr}
use Rattle.std.proofs.Common.{refl, sym, ◌∙◌}
use Rattle.std.specs.Ordering.{is_lt}
use Rattle.std.specs.FinMap.Entries.{find}
use Rattle.cell_core.specs.declared.cell.Cell.{Cell}
use Rattle.cell_core.specs.Stamp.{stamp_cmp}
use Rattle.cell_core.specs.Cell.{joined_cells}
use Rattle.cell_core.specs.Keyed.{joined_if_both}
use Rattle.cell_core.specs.inner.KeyedLaws.{joined_maps-IsMap, find-joined_maps, same_maps}
use Rattle.cell_core.specs.Entry.{EntryKey, key_cmp}
use Rattle.cell_core.specs.inner.Entry.{key_cmp_total, key_cmp_exact}
use Rattle.catalogue.specs.Entries.{Entry, joined}
use Rattle.catalogue.specs.Edits.{catalogue_of, IsSettled}
use Rattle.lang_core.proofs.Basics.{less_of}
use Rattle.catalogue.proofs.Basics.{not_less_of}
use Rattle.catalogue.proofs.EditStampOrderLemmas.{not_less_back}
use Rattle.catalogue.proofs.CatalogueMembersLemmas.{in_append_cases}
use Rattle.catalogue.proofs.CatalogueBestLemmas.{best_in, best_of_first, best_of_second, above_best}
use Rattle.catalogue.proofs.CatalogueLemmas.{catalogue_of-IsMap, found_best, best_found, none_in}

module _ (xs ys : List Entry) (settled : IsSettled (xs ++ ys)) (k : EntryKey) where
  absent : find key_cmp k (catalogue_of xs) ≡ None → find key_cmp k (catalogue_of ys) ≡ None
      → (o : Option Cell) → find key_cmp k (catalogue_of (xs ++ ys)) ≡ o → o ≡ None
  absent e f None h = refl
  absent e f (Some c) h =
      absurd
      (elim (in_append_cases xs ys (k, c) (best_in (xs ++ ys) k c (found_best (xs ++ ys) k c h))) as
      (λ _. ⊥) [ inl a ↦ none_in xs k e c a | inr b ↦ none_in ys k f c b ])

  at_key : (a b : Option Cell) → find key_cmp k (catalogue_of xs) ≡ a
      → find key_cmp k (catalogue_of ys) ≡ b
      → find key_cmp k (catalogue_of (xs ++ ys)) ≡ joined_if_both joined_cells a b
  at_key None None e f = absent e f (find key_cmp k (catalogue_of (xs ++ ys))) refl
  at_key (Some c) None e f =
      best_found (xs ++ ys) settled k c
      (best_of_first xs ys k c (found_best xs k c e) (λ d h. absurd (none_in ys k f d h)))
  at_key None (Some d) e f =
      best_found (xs ++ ys) settled k d
      (best_of_second xs ys k d (found_best ys k d f) (λ c h. absurd (none_in xs k e c h)))
  at_key (Some c) (Some d) e f =
      elim (is_lt (stamp_cmp c.stamp d.stamp)) as
      (λ t. is_lt (stamp_cmp c.stamp d.stamp) ≡ t
      → find key_cmp k (catalogue_of (xs ++ ys)) ≡ Some (cond t d c)) [
        | true ↦ λ t. best_found (xs ++ ys) settled k d
            (best_of_second xs ys k d (found_best ys k d f)
            (above_best xs k d c (found_best xs k c e)
            (not_less_back c.stamp d.stamp (less_of (stamp_cmp c.stamp d.stamp) t))))
        | false ↦
            λ t. best_found (xs ++ ys) settled k c
            (best_of_first xs ys k c (found_best xs k c e)
            (above_best ys k c d (found_best ys k d f) (not_less_of (stamp_cmp c.stamp d.stamp) t)))
      ] refl

-- the catalogue of one list after another is the join
pub joined_catalogue : (xs ys : List Entry) → IsSettled (xs ++ ys)
    → catalogue_of (xs ++ ys) ≡ joined (catalogue_of xs) (catalogue_of ys)
joined_catalogue xs ys settled =
    same_maps key_cmp key_cmp_total key_cmp_exact (catalogue_of (xs ++ ys))
    (joined (catalogue_of xs) (catalogue_of ys)) (catalogue_of-IsMap (xs ++ ys))
    (joined_maps-IsMap key_cmp key_cmp_total joined_cells (catalogue_of xs) (catalogue_of ys)
    (catalogue_of-IsMap xs) (catalogue_of-IsMap ys))
    (λ k. at_key xs ys settled k (find key_cmp k (catalogue_of xs))
    (find key_cmp k (catalogue_of ys)) refl refl
    ∙ sym (find-joined_maps key_cmp key_cmp_total joined_cells (catalogue_of xs) (catalogue_of ys)
    (catalogue_of-IsMap xs) (catalogue_of-IsMap ys) k))
