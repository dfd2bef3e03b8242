-- What an import leaves.
use Rattle.std.proofs.Common.{◌≡◌, ◌∙◌, ℕ, List, [], ap, refl}
use Rattle.std.specs.Prelude.{None, Some, option_map}
use Rattle.std.specs.FinMap.Entries.{find}
use Rattle.cell_core.specs.Keyed.{IsMap}
use Rattle.cell_core.specs.inner.KeyedLaws.{same_maps}
use Rattle.cell_core.specs.Entry.{EntryKey, key_cmp}
use Rattle.cell_core.specs.inner.Entry.{key_cmp_exact, key_cmp_total}
use Rattle.catalogue.specs.Entries.{Entries}
use Rattle.catalogue.proofs.ChangesMappedLemmas.{find-mapped, mapped-IsMap}
use Rattle.map_docs.specs.Maps.{Labelled}
use Rattle.query_docs.specs.Exporting.{label_at, live_labels}
use Rattle.query_docs.proofs.ExportingLemmas.{find-live, label_in, live-IsMap}
use Rattle.docs_core.specs.ImportingLabels.{Imports, puts_of}
use Rattle.docs_core.proofs.UpdatingLaws.{made-IsMap, made_at}

module _ (now : ℕ) (name : List ℕ) (labels : List Labelled) (cells imported : Entries)
    (m : IsMap key_cmp labels) (imports : Imports now name labels cells imported) where
  -- the live label of a key of the labels is theirs
  pub import_puts : (key : EntryKey) (label : List (List ℕ)) → find key_cmp key labels ≡ Some label
      → label_at key imported ≡ Some label
  import_puts key label at =
      let left = made_at now name (puts_of labels) cells imported
      (mapped-IsMap key_cmp Some labels m) imports key in
      left.1 (Some label) (find-mapped key_cmp Some key labels ∙ ap (option_map Some) at)

  -- each other key has what it had
  pub import_leaves : (key : EntryKey) → find key_cmp key labels ≡ None
      → find key_cmp key imported ≡ find key_cmp key cells
  import_leaves key none =
      let left = made_at now name (puts_of labels) cells imported
      (mapped-IsMap key_cmp Some labels m) imports key in
      left.0 (find-mapped key_cmp Some key labels ∙ ap (option_map Some) none)

-- what was exported and is imported into an empty site has the same live labels
pub import_of_export : (now : ℕ) (name : List ℕ) (cells imported : Entries) → IsMap key_cmp cells
    → Imports now name (live_labels cells) [] imported → live_labels imported ≡ live_labels cells
import_of_export now name cells imported m imports =
    let labels = live_labels cells in
    let ascend = live-IsMap cells m in
    let after = made-IsMap now name (puts_of labels) [] imported tt imports in
    same_maps key_cmp key_cmp_total key_cmp_exact (live_labels imported) labels
    (live-IsMap imported after) ascend
    (λ key. find-live key imported after
    ∙ elim (find key_cmp key labels) as (λ o. find key_cmp key labels ≡ o
    → label_at key imported ≡ o) [
      | Some label ↦ λ at. import_puts now name labels [] imported ascend imports key label at
      | None ↦
          λ none. ap label_in (import_leaves now name labels [] imported ascend imports key none)
    ] refl)
