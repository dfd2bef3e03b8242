-- The changes from old language maps to new ones, as far as the cells of a site were seen.
use Rattle.std.specs.Prelude.{◌≡◌, ◌≢◌, ◌⊎◌, ◌++◌, [], ◌∷◌, List, None, Some, map, option_map}
use Rattle.std.specs.FinMap.Entries.{find}
use Rattle.cell_core.specs.Keyed.{IsMap}
use Rattle.cell_core.specs.Entry.{EntryKey, key_cmp}
use Rattle.catalogue.specs.Entries.{Entries, IsAboveAll}
use Rattle.catalogue.specs.CatalogueLatest.{latest_of}
use Rattle.map_docs.specs.Maps.{Labelled}
use Rattle.docs_core.specs.UpdatingChanges.{Change}
use Rattle.docs_core.specs.inner.Revised.{key_of, new_of, old_of}
use Rattle.docs_core.specs.Updating.{AreChanges, IsChangeAt, Texts}
use Rattle.docs_core.specs.declared.call.found_changes.FoundChanges.{FoundChanges}
use Rattle.docs_core.specs.declared.call.found_changes.KeyChange.{KeyChange}
use Rattle.docs_core.specs.declared.call.revised.Revised.{Revised}

-- the changes of keys
abbrev pub changes_of : List KeyChange → List Change
changes_of changes = map
    (λ c. (c.key.now.0, option_map (λ l. l.now) c.label))
    changes

-- one of the two has a label of the key
abbrev pub HasLabel : EntryKey → List Labelled → List Labelled → Type 0
HasLabel key old new = (find key_cmp key old ≢ None) ⊎ (find key_cmp key new ≢ None)

-- With whatever cells come after those that were seen, these changes and those at the keys that are
-- left are all. Each key that is left is greater than those of the cells.
pub record IsFound (old new olds news : List Labelled) (seen : Entries) (done : List Change)
    : Type 0 where
  pub rest : (more : Entries) → IsMap key_cmp (seen ++ more) → (changes : List Change)
      → AreChanges olds news (seen ++ more) changes
      → AreChanges old new (seen ++ more) (done ++ changes)
  pub above : (key : EntryKey) → HasLabel key olds news → IsAboveAll key seen

-- the changes up to the last cell are found, and what is left of the labels ascends
pub record HoldsFound (found : FoundChanges) (old new : List Labelled) (seen : Entries) : Type 0
  where
    pub latest : found.stamps.latest ≡ latest_of seen
    pub old_map : IsMap key_cmp found.olds.now
    pub new_map : IsMap key_cmp found.news.now
    pub changes : IsFound old new found.olds.now found.news.now seen
        (changes_of found.changes.items)

-- the change at a key whose label is `held` on the site is one more, where there is one
abbrev pub IsNoted : Revised → Texts → List Change → List Change → Type 0
IsNoted r held old new =
    (IsChangeAt (old_of r) (new_of r) held None × (new ≡ old))
    ⊎ (IsChangeAt (old_of r) (new_of r) held (Some (new_of r))
    × (new ≡ old ++ (key_of r, new_of r) ∷ []))
