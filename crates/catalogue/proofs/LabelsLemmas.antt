-- The live labels of a message.
use Rattle.std.proofs.Common.{◌≡◌, ℕ, true, false, cond, List, [], ◌∷◌, ◌++◌, Option, Some, None}
use Rattle.std.proofs.Common.{sym, ap, ◌∙◌, refl}
use Rattle.std.specs.Prelude.{map, filter}
use Rattle.std.specs.List.{cons_option}
use Rattle.std.specs.Option.{option_map}
use Rattle.std.specs.Ordering.{is_eq}
use Rattle.std.specs.Cmp.Lexicographic.{nat_list_cmp_total}
use Rattle.std.specs.FinMap.Entries.{find, below_all, is_sorted}
use Rattle.cell_core.specs.declared.cell.Cell.{Cell}
use Rattle.cell_core.specs.Keyed.{IsMap}
use Rattle.catalogue.specs.CatalogueFlat.{under, flat}
use Rattle.catalogue.specs.inner.CatalogueFlat.{inner_of}
use Rattle.cell_core.specs.Entry.{text_cmp}
use Rattle.catalogue.specs.Entries.{Entry, Entries}
use Rattle.catalogue.specs.CatalogueNested.{Nested}
use Rattle.cell_core.specs.KeyedFound.{with_key}
use Rattle.catalogue.specs.Live.{of_message, labelled, live_of, live}
use Rattle.cell_core.proofs.Basics.{first_part, second_part, tied_order as tied}
use Rattle.catalogue.proofs.Basics.{append_nil, some_same}
use Rattle.cell_core.proofs.KeyedPlacesLemmas.{find-below, below_tied}

-- ---- the cells of a message

of_under_same : (id k : List ℕ) (es : List (List ℕ × Cell)) (rest : Entries)
    → is_eq (text_cmp id k) ≡ true → of_message id (under k es ++ rest) ≡ es ++ of_message id rest
of_under_same id k [] rest t = refl
of_under_same id k (e ∷ es) rest t =
    ap (λ b. map (λ (x : Entry). (x.0.1, x.1))
    (cond b (((k, e.0), e.1) ∷ filter (λ x. is_eq (text_cmp id x.0.0)) (under k es ++ rest))
    (filter (λ x. is_eq (text_cmp id x.0.0)) (under k es ++ rest)))) t
    ∙ ap (λ xs. e ∷ xs) (of_under_same id k es rest t)

of_under_other : (id k : List ℕ) (es : List (List ℕ × Cell)) (rest : Entries)
    → is_eq (text_cmp id k) ≡ false → of_message id (under k es ++ rest) ≡ of_message id rest
of_under_other id k [] rest t = refl
of_under_other id k (e ∷ es) rest t =
    ap (λ b. map (λ (x : Entry). (x.0.1, x.1))
    (cond b (((k, e.0), e.1) ∷ filter (λ x. is_eq (text_cmp id x.0.0)) (under k es ++ rest))
    (filter (λ x. is_eq (text_cmp id x.0.0)) (under k es ++ rest)))) t
    ∙ of_under_other id k es rest t

-- the cells of a message in the flat list are its inner map
pub of_message-flat : (id : List ℕ) (m : Nested) → IsMap text_cmp m
    → of_message id (flat m) ≡ inner_of (find text_cmp id m)
of_message-flat id [] sorted = refl
of_message-flat id (e ∷ es) sorted =
    let below = first_part (below_all text_cmp e.0 es) (is_sorted text_cmp es) sorted in
    let rest =
    of_message-flat id es
    (second_part (below_all text_cmp e.0 es) (is_sorted text_cmp es) sorted) in
    elim (is_eq (text_cmp id e.0)) as
    (λ t. is_eq (text_cmp id e.0) ≡ t
    → of_message id (under e.0 e.1 ++ flat es)
    ≡ inner_of (cond t (Some e.1) (find text_cmp id es))) [
      | true ↦ λ t.
          let none =
          find-below text_cmp id es
          (below_tied text_cmp nat_list_cmp_total id e.0 es (tied (text_cmp id e.0) t)
          below) in
          of_under_same id e.0 e.1 (flat es) t ∙ ap (λ xs. e.1 ++ xs) (rest ∙ ap inner_of none)
          ∙ append_nil e.1
      | false ↦ λ t. of_under_other id e.0 e.1 (flat es) t ∙ rest
    ] refl

-- The live labels of a message are those of its inner map.
pub live-flat : (id : List ℕ) (m : Nested) → IsMap text_cmp m
    → live_of (inner_of (find text_cmp id m)) ≡ live (flat m) id
live-flat id m sorted = ap live_of (sym (of_message-flat id m sorted))

-- ---- live labels by their language

-- The label of a cell, if there is a cell and it has one.
abbrev pub label_of : Option Cell → Option (List (List ℕ))
label_of None = None
label_of (Some c) = c.label

-- A language has as its live label the label of its cell, and none without a cell or a label.
pub find-live_of : (q : List ℕ) (es : List (List ℕ × Cell)) → IsMap text_cmp es
    → find text_cmp q (live_of es) ≡ label_of (find text_cmp q es)
find-live_of q [] sorted = refl
find-live_of q (e ∷ es) sorted =
    let below = first_part (below_all text_cmp e.0 es) (is_sorted text_cmp es) sorted in
    let rest =
    find-live_of q es
    (second_part (below_all text_cmp e.0 es) (is_sorted text_cmp es) sorted) in
    elim (is_eq (text_cmp q e.0)) as
    (λ t. is_eq (text_cmp q e.0) ≡ t
    → find text_cmp q (cons_option (labelled e) (live_of es))
    ≡ label_of (cond t (Some e.1) (find text_cmp q es))) [
      | true ↦ λ t.
          let none =
          find-below text_cmp q es
          (below_tied text_cmp nat_list_cmp_total q e.0 es (tied (text_cmp q e.0) t) below)
          in
          elim e.1.label as
          (λ o. find text_cmp q
          (cons_option (option_map (λ label. (e.0, label)) o) (live_of es)) ≡ o) [
            | None ↦ rest ∙ ap label_of none
            | Some label ↦ ap (λ b. cond b (Some label) (find text_cmp q (live_of es))) t
          ]
      | false ↦ λ t.
          elim e.1.label as
          (λ o. find text_cmp q
          (cons_option (option_map (λ label. (e.0, label)) o) (live_of es))
          ≡ label_of (find text_cmp q es)) [
            | None ↦ rest
            | Some label ↦ ap (λ b. cond b (Some label) (find text_cmp q (live_of es))) t ∙ rest
          ]
    ] refl

-- a label, by what a search of the cells gave
pub with_label : (q : List ℕ) (es : List (List ℕ × Cell)) (k : List ℕ) (c : Cell)
    (label : Option (List (List ℕ))) → IsMap text_cmp es
    → Some (k, c) ≡ with_key q (find text_cmp q es) → c.label ≡ label
    → with_key k label ≡ with_key q (find text_cmp q (live_of es))
with_label q es k c label sorted is has =
    elim (find text_cmp q es) as
    (λ o. find text_cmp q es ≡ o → Some (k, c) ≡ with_key q o
    → with_key k label ≡ with_key q (find text_cmp q (live_of es))) [
      | None ↦ λ e f. absurd (cc)
      | Some d ↦ λ e f.
          let key = ap (λ (x : List ℕ × Cell). x.0) (some_same (k, c) (q, d) f) in
          let value = ap (λ (x : List ℕ × Cell). x.1) (some_same (k, c) (q, d) f) in
          ap (with_key k) (sym has ∙ ap (λ (x : Cell). x.label) value)
          ∙ ap (λ x. with_key x d.label) key
          ∙ ap (with_key q) (sym (find-live_of q es sorted ∙ ap label_of e))
    ] refl is

-- A language without a cell has no live label.
pub with_none : (q : List ℕ) (es : List (List ℕ × Cell)) → IsMap text_cmp es
    → None ≡ with_key q (find text_cmp q es) → None ≡ with_key q (find text_cmp q (live_of es))
with_none q es sorted is =
    elim (find text_cmp q es) as
    (λ o. find text_cmp q es ≡ o → None ≡ with_key q o
    → None ≡ with_key q (find text_cmp q (live_of es))) [
      | None ↦ λ e f. ap (with_key q) (sym (find-live_of q es sorted ∙ ap label_of e))
      | Some d ↦ λ e f. absurd (cc)
    ] refl is
