-- A key of language maps before and after an editor worked on them, and what is done there.
use Rattle.std.specs.Prelude.{◌≡◌, ◌⊎◌, ℕ, List, None, Some, T, cond}
use Rattle.std.specs.Prelude.{option_map}
use Rattle.std.specs.Ordering.{eq_by_cmp}
use Rattle.std.specs.FinMap.Entries.{below_all, find}
use Rattle.cell_core.specs.Keyed.{IsMap}
use Rattle.cell_core.specs.Stamp.{IsNext, NoNext}
use Rattle.cell_core.specs.declared.stamp.Stamp.{Stamp}
use Rattle.cell_core.specs.Entry.{EntryKey, key_cmp}
use Rattle.catalogue.specs.Entries.{Entries}
use Rattle.catalogue.specs.CatalogueLatest.{latest_of}
use Rattle.map_docs.specs.Maps.{Labelled}
use Rattle.query_docs.specs.Exporting.{label_at}
use Rattle.docs_core.specs.UpdatingChanges.{with_change}
use Rattle.docs_core.specs.Updating.{IsChangeAt, Texts}
use Rattle.docs_core.specs.declared.call.revised.Revised.{Revised}

-- the key: a message and a language
abbrev pub key_of : Revised → EntryKey
key_of r = r.key.now.0

-- the texts at the key before, or none
abbrev pub old_of : Revised → Texts
old_of r = option_map (λ l. l.now) r.old

-- the texts at the key after, or none
abbrev pub new_of : Revised → Texts
new_of r = option_map (λ l. l.now) r.new

-- before the rest a list has this at the key, or nothing, and all keys of the rest are greater
pub record IsHead (key : EntryKey) (texts : Texts) (list rest : List Labelled) : Type 0 where
  pub ascends : IsMap key_cmp rest
  pub above : T (below_all key_cmp key rest)
  pub at : (q : EntryKey)
      → find key_cmp q list ≡ cond (eq_by_cmp key_cmp q key) texts (find key_cmp q rest)

-- the least key of both lists, and what is left of them
pub record IsFirstRevised (r : Revised) (old new old_rest new_rest : List Labelled) : Type 0 where
  pub old_head : IsHead (key_of r) (old_of r) old old_rest
  pub new_head : IsHead (key_of r) (new_of r) new new_rest

-- what is done at the key is done
abbrev pub IsRevised : ℕ → List ℕ → Revised → Entries → Entries → Type 0
IsRevised now name r old new =
    (IsChangeAt (old_of r) (new_of r) (label_at (key_of r) old) None × (new ≡ old))
    ⊎ (IsChangeAt (old_of r) (new_of r) (label_at (key_of r) old) (Some (new_of r))
    × (stamp : Stamp) × IsNext (latest_of old) now name stamp
    × (new ≡ with_change (key_of r, new_of r) stamp old))

-- it would be done, and there is no next stamp
abbrev pub NoStamp : ℕ → List ℕ → Revised → Entries → Type 0
NoStamp now name r old =
    IsChangeAt (old_of r) (new_of r) (label_at (key_of r) old) (Some (new_of r))
    × NoNext (latest_of old) now name
