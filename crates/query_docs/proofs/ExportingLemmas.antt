-- The live labels of a catalogue, as a map.
use Rattle.std.proofs.Common.{◌≡◌, ◌∙◌, ℕ, true, false, cond, List, [], ◌∷◌, refl, ap}
use Rattle.std.specs.Prelude.{None, Option, Some, T, option_and_then, option_map}
use Rattle.std.specs.List.{cons_option}
use Rattle.std.specs.Ordering.{eq_by_cmp, is_lt}
use Rattle.std.specs.FinMap.Entries.{below_all, find, is_sorted}
use Rattle.cell_core.specs.Keyed.{IsMap}
use Rattle.cell_core.specs.declared.cell.Cell.{Cell}
use Rattle.cell_core.specs.Entry.{EntryKey, key_cmp}
use Rattle.cell_core.specs.inner.Entry.{key_cmp_total}
use Rattle.catalogue.specs.Entries.{Entries}
use Rattle.cell_core.proofs.KeyedPlacesLemmas.{find-below, below_tied}
use Rattle.catalogue.proofs.EntriesFilteredLemmas.{filter-IsMap}
use Rattle.map_docs.specs.Maps.{Labelled}
use Rattle.query_docs.specs.inner.Chosen.{chosen_labels, is_chosen}
use Rattle.query_docs.specs.Exporting.{label_at, live_labels}
use Rattle.query_docs.specs.declared.messages.Messages.{Messages}
use Rattle.cell_core.proofs.Basics.{both_parts, first_part, second_part, tied_order as tied}

-- the labels of the other entries, and before them what this entry adds
abbrev labelled : EntryKey → Option (List (List ℕ)) → List Labelled → List Labelled
labelled key label rest = cons_option (option_map (λ l. (key, l)) label) rest

-- ---- they ascend

below_live : (key : EntryKey) (es : Entries) → T (below_all key_cmp key es)
    → T (below_all key_cmp key (live_labels es))
below_live key [] h = tt
below_live key (e ∷ es) h =
    let rest =
    below_live key es (second_part (is_lt (key_cmp key e.0)) (below_all key_cmp key es) h) in
    elim e.1.label as (λ o. T (below_all key_cmp key (labelled e.0 o (live_labels es)))) [
      | None ↦ rest
      | Some label ↦
          both_parts (is_lt (key_cmp key e.0)) (below_all key_cmp key (live_labels es))
          (first_part (is_lt (key_cmp key e.0)) (below_all key_cmp key es) h) rest
    ]

-- the keys of the live labels ascend
pub live-IsMap : (es : Entries) → IsMap key_cmp es → IsMap key_cmp (live_labels es)
live-IsMap [] h = tt
live-IsMap (e ∷ es) h =
    let rest = live-IsMap es (second_part (below_all key_cmp e.0 es) (is_sorted key_cmp es) h) in
    elim e.1.label as (λ o. IsMap key_cmp (labelled e.0 o (live_labels es))) [
      | None ↦ rest
      | Some label ↦
          both_parts (below_all key_cmp e.0 (live_labels es)) (is_sorted key_cmp (live_labels es))
          (below_live e.0 es (first_part (below_all key_cmp e.0 es) (is_sorted key_cmp es) h))
          rest
    ]

-- the keys of the chosen labels ascend
pub chosen-IsMap : (messages : Messages) (cells : Entries) → IsMap key_cmp cells
    → IsMap key_cmp (chosen_labels messages cells)
chosen-IsMap messages cells m =
    filter-IsMap key_cmp (λ (e : Labelled). is_chosen messages cells e.0.0) (live_labels cells)
    (live-IsMap cells m)

-- ---- a key's label

-- the label of a cell that may be there
abbrev pub label_in : Option Cell → Option (List (List ℕ))
label_in o = option_and_then (λ c. c.label) o

-- the live label of a key is that of its cell
pub find-live : (q : EntryKey) (es : Entries) → IsMap key_cmp es
    → find key_cmp q (live_labels es) ≡ label_at q es
find-live q [] m = refl
find-live q (e ∷ es) m =
    let below = first_part (below_all key_cmp e.0 es) (is_sorted key_cmp es) m in
    let rest = find-live q es (second_part (below_all key_cmp e.0 es) (is_sorted key_cmp es) m) in
    elim (eq_by_cmp key_cmp q e.0) as (λ t. eq_by_cmp key_cmp q e.0 ≡ t
    → find key_cmp q (labelled e.0 e.1.label (live_labels es))
    ≡ label_in (cond t (Some e.1) (find key_cmp q es))) [
      | true ↦ λ t.
          let none =
          find-below key_cmp q es
          (below_tied key_cmp key_cmp_total q e.0 es (tied (key_cmp q e.0) t) below) in
          elim e.1.label as (λ o. find key_cmp q (labelled e.0 o (live_labels es)) ≡ o) [
            | None ↦ rest ∙ ap label_in none
            | Some label ↦ ap (λ b. cond b (Some label) (find key_cmp q (live_labels es))) t
          ]
      | false ↦ λ t.
          elim e.1.label as (λ o. find key_cmp q (labelled e.0 o (live_labels es))
          ≡ label_in (find key_cmp q es)) [
            | None ↦ rest
            | Some label ↦ ap (λ b. cond b (Some label) (find key_cmp q (live_labels es))) t ∙ rest
          ]
    ] refl
