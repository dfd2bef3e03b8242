-- What of a catalogue is offered.
--
-- A language is offered or not whatever its label is, so leaving out what is not offered and taking
-- the live labels of a message may be done in either order, and a search for a language gives what
-- it gave where the language is offered, and nothing elsewhere. Where all is offered nothing is
-- left out.
use Rattle.std.proofs.Common.{◌≡◌, ◌∙◌, ℕ, List, [], ◌∷◌, ◌++◌, Option, Some, None, Bool, true}
use Rattle.std.proofs.Common.{false, cond, inl, inr, refl, subst, sym, ap}
use Rattle.std.specs.Prelude.{filter, All, Contains, IsTrue, slice_get}
use Rattle.std.specs.List.{cons_option}
use Rattle.std.specs.Option.{option_map}
use Rattle.std.specs.Ordering.{is_eq}
use Rattle.std.specs.FinMap.Entries.{find}
use Rattle.std.proofs.lemmas.Bool.{cases_Bool}
use Rattle.std.proofs.lemmas.List.{map-append}
use Rattle.std.proofs.lemmas.List.Elements.{All-nil, All-cons, All-contains, All-head}
use Rattle.std.proofs.lemmas.List.Elements.{All-tail, filter-append}
use Rattle.std.proofs.lemmas.Option.{slice_get_within, get_or_from_slice_get}
use Rattle.list_core.specs.Item.{Item}
use Rattle.list_core.specs.declared.scheme.Scheme.{Scheme}
use Rattle.nego_core.specs.declared.filtering.Pick.{Pick}
use Rattle.nego_core.specs.Offer.{all_items, is_offered}
use Rattle.nego_core.specs.Shortlist.{AreAmong}
use Rattle.nego_core.proofs.OfferLemmas.{all_offered}
use Rattle.cell_core.specs.declared.cell.Cell.{Cell}
use Rattle.cell_core.specs.Entry.{EntryKey, key_cmp, text_cmp}
use Rattle.cell_core.specs.inner.Entry.{key_cmp_total, key_cmp_exact}
use Rattle.cell_core.specs.Keyed.{IsMap}
use Rattle.cell_core.specs.inner.KeyedLaws.{same_maps}
use Rattle.cell_core.specs.KeyedFound.{with_key}
use Rattle.cell_core.proofs.Basics.{tied_order as tied}
use Rattle.catalogue.proofs.Basics.{some_same}
use Rattle.catalogue.specs.Asking.{IsFilterAnswer, Weighed, picked, with_weight}
use Rattle.catalogue.specs.Entries.{Entries, Entry}
use Rattle.catalogue.specs.Live.{Labelled, labelled, languages, live, live_of, of_message}
use Rattle.catalogue.specs.EntriesOffered.{offered_cells, offered_labels}
use Rattle.catalogue.proofs.CatalogueNestedLemmas.{text_exact}
use Rattle.catalogue.proofs.CataloguePartsLemmas.{find-kept}
use Rattle.catalogue.proofs.EntriesFilteredLemmas.{filter-IsMap}

-- ---- all is offered

-- Where all is offered no label is left out.
pub all_labels : (labels : Labelled) → offered_labels all_items labels ≡ labels
all_labels [] = refl
all_labels (e ∷ es) = rw (all_offered e.0) (ap (λ (x : Labelled). e ∷ x) (all_labels es))

-- Where all is offered no cell is left out.
pub all_cells : (cells : Entries) → offered_cells all_items cells ≡ cells
all_cells [] = refl
all_cells (e ∷ es) = rw (all_offered e.0.1) (ap (λ (x : Entries). e ∷ x) (all_cells es))

-- ---- the live labels of a message

-- the live label of a cell, before others
abbrev before : Option (List ℕ × List (List ℕ)) → Labelled → Labelled
before o labels = cons_option o labels

offered_before : (offer : List Item) (k : List ℕ) (label : Option (List (List ℕ)))
    (labels : Labelled) (b : Bool) → is_offered offer k ≡ b
    → offered_labels offer (before (option_map (λ l. (k, l)) label) labels)
    ≡ cond b (before (option_map (λ l. (k, l)) label) (offered_labels offer labels))
    (offered_labels offer labels)
offered_before offer k None labels true e = refl
offered_before offer k None labels false e = refl
offered_before offer k (Some l) labels true e = rw e refl
offered_before offer k (Some l) labels false e = rw e refl

offered_message : (offer : List Item) (cells : Entries) (id : List ℕ)
    → filter (λ e. is_offered offer e.0) (of_message id cells)
    ≡ of_message id (offered_cells offer cells)
offered_message offer [] id = refl
offered_message offer (e ∷ es) id =
    let rest = offered_message offer es id in
    elim (cases_Bool (is_eq (text_cmp id e.0.0))) [
      | inl same ↦ elim (cases_Bool (is_offered offer e.0.1)) [
        | inl shown ↦
            rw (shown, same, shown) (ap (λ (x : List (List ℕ × Cell)). (e.0.1, e.1) ∷ x) rest)
        | inr hidden ↦ rw (hidden, same, hidden) rest
      ]
      | inr other ↦ elim (cases_Bool (is_offered offer e.0.1)) [
        | inl shown ↦ rw (shown, other) rest
        | inr hidden ↦ rw (hidden, other) rest
      ]
    ]

offered_live : (offer : List Item) (cells : List (List ℕ × Cell))
    → live_of (filter (λ e. is_offered offer e.0) cells) ≡ offered_labels offer (live_of cells)
offered_live offer [] = refl
offered_live offer (e ∷ es) =
    let rest = offered_live offer es in
    elim (cases_Bool (is_offered offer e.0)) [
      | inl shown ↦
          rw shown (ap (before (labelled e)) rest
          ∙ sym (offered_before offer e.0 e.1.label (live_of es) true shown))
      | inr hidden ↦
          rw hidden (rest ∙ sym (offered_before offer e.0 e.1.label (live_of es) false hidden))
    ]

-- The live labels of a message without the cells that are not offered are its live labels without
-- those that are not offered.
pub live_offered : (offer : List Item) (cells : Entries) (id : List ℕ)
    → live (offered_cells offer cells) id ≡ offered_labels offer (live cells id)
live_offered offer cells id =
    sym (ap live_of (offered_message offer cells id)) ∙ offered_live offer (of_message id cells)

-- ---- the label of a language

-- A search for a language gives what it gave if the language is offered, else nothing.
pub find_offered : (offer : List Item) (q : List ℕ) (labels : Labelled)
    → find text_cmp q (offered_labels offer labels)
    ≡ cond (is_offered offer q) (find text_cmp q labels) None
find_offered offer q [] = elim (cases_Bool (is_offered offer q)) [
  | inl shown ↦ rw shown refl
  | inr hidden ↦ rw hidden refl
]
find_offered offer q (e ∷ es) =
    let rest = find_offered offer q es in
    elim (cases_Bool (is_eq (text_cmp q e.0))) [
      | inl same ↦
          (let text : q ≡ e.0 = text_exact q e.0 (tied (text_cmp q e.0) same) in
          let alike : is_offered offer q ≡ is_offered offer e.0 = ap (is_offered offer) text in
          elim (cases_Bool (is_offered offer e.0)) [
            | inl shown ↦
                (let asked : is_offered offer q ≡ true = alike ∙ shown in
                rw (shown, asked, same) refl)
            | inr hidden ↦
                (let asked : is_offered offer q ≡ false = alike ∙ hidden in
                let none : find text_cmp q (offered_labels offer es) ≡ None =
                rest ∙ ap (λ b. cond b (find text_cmp q es) None) asked in
                rw (hidden, asked) none)
          ])
      | inr other ↦ elim (cases_Bool (is_offered offer e.0)) [
        | inl shown ↦ rw (shown, other) rest
        | inr hidden ↦ rw (hidden, other) rest
      ]
    ]

key_is : (q k : List ℕ) (label : List (List ℕ)) (o : Option (List (List ℕ)))
    → Some (k, label) ≡ with_key q o → q ≡ k
key_is q k label None e = absurd (cc)
key_is q k label (Some l) e =
    ap (λ (x : List ℕ × List (List ℕ)). x.0) (sym (some_same (k, label) (q, l) e))

-- The label that is found for a language is that of the offer where the language is offered.
pub found_offered : (offer : List Item) (q k : List ℕ) (label : List (List ℕ))
    (labels : Labelled) → Some (k, label) ≡ with_key q (find text_cmp q labels)
    → is_offered offer k ≡ true
    → Some (k, label) ≡ with_key q (find text_cmp q (offered_labels offer labels))
found_offered offer q k label labels found shown =
    let asked : is_offered offer q ≡ true =
    ap (is_offered offer) (key_is q k label (find text_cmp q labels) found) ∙ shown in
    found ∙ ap (with_key q) (sym (find_offered offer q labels
    ∙ ap (λ b. cond b (find text_cmp q labels) None) asked))

-- No label is found for a language that is not offered.
pub hidden_offered : (offer : List Item) (q k : List ℕ) (label : List (List ℕ))
    (labels : Labelled) → Some (k, label) ≡ with_key q (find text_cmp q labels)
    → is_offered offer k ≡ false
    → None ≡ with_key q (find text_cmp q (offered_labels offer labels))
hidden_offered offer q k label labels found hidden =
    let asked : is_offered offer q ≡ false =
    ap (is_offered offer) (key_is q k label (find text_cmp q labels) found) ∙ hidden in
    ap (with_key q) (sym (find_offered offer q labels
    ∙ ap (λ b. cond b (find text_cmp q labels) None) asked))

-- No label is found that was not found.
pub none_offered : (offer : List Item) (q : List ℕ) (labels : Labelled)
    → None ≡ with_key q (find text_cmp q labels)
    → None ≡ with_key q (find text_cmp q (offered_labels offer labels))
none_offered offer q labels none =
    elim (cases_Bool (is_offered offer q)) [
      | inl shown ↦
          none ∙ ap (with_key q) (sym (find_offered offer q labels
          ∙ ap (λ b. cond b (find text_cmp q labels) None) shown))
      | inr hidden ↦
          ap (with_key q) (sym (find_offered offer q labels
          ∙ ap (λ b. cond b (find text_cmp q labels) None) hidden))
    ]

-- ---- languages

one_language : (offer : List Item) (e : List ℕ × List (List ℕ))
    → languages (offered_labels offer (e ∷ [])) ≡ filter (is_offered offer) (e.0 ∷ [])
one_language offer e = elim (cases_Bool (is_offered offer e.0)) [
  | inl shown ↦ rw shown refl
  | inr hidden ↦ rw hidden refl
]

-- One label more adds its language if that is offered.
pub languages_more : (offer : List Item) (labels : Labelled) (e : List ℕ × List (List ℕ))
    → languages (offered_labels offer (labels ++ e ∷ []))
    ≡ languages (offered_labels offer labels) ++ filter (is_offered offer) (e.0 ∷ [])
languages_more offer labels e =
    ap languages (filter-append (λ (x : List ℕ × List (List ℕ)). is_offered offer x.0) labels
    (e ∷ []))
    ∙ (map-append (λ (x : List ℕ × List (List ℕ)). x.0) (offered_labels offer labels)
    (offered_labels offer (e ∷ []))
    ∙ ap (λ x. languages (offered_labels offer labels) ++ x) (one_language offer e))

-- What has all languages of some labels has those that are offered.
pub offered_among : (offer : List Item) (labels : Labelled) (langs : List (List ℕ))
    → AreAmong (languages labels) langs → AreAmong (languages (offered_labels offer labels)) langs
offered_among offer [] langs h = h
offered_among offer (e ∷ es) langs h =
    let rest = offered_among offer es langs (All-tail (Contains langs) e.0 (languages es) h) in
    elim (cases_Bool (is_offered offer e.0)) [
      | inl shown ↦
          rw shown
          (All-cons (Contains langs) e.0 (languages (offered_labels offer es))
          (All-head (Contains langs) e.0 (languages es) h) rest)
      | inr hidden ↦ rw hidden rest
    ]

-- ---- laws

shown_by : (offer : List Item) (q : List ℕ) (labels : Labelled) (label : List (List ℕ))
    → find text_cmp q (offered_labels offer labels) ≡ Some label → is_offered offer q ≡ true
shown_by offer q labels label found = elim (cases_Bool (is_offered offer q)) [
  | inl shown ↦ shown
  | inr hidden ↦
      absurd
      (let none : find text_cmp q (offered_labels offer labels) ≡ None =
      find_offered offer q labels ∙ ap (λ b. cond b (find text_cmp q labels) None) hidden in cc)
]

-- A language whose label is found in a catalogue of what is offered is offered.
pub found_is_offered : (offer : List Item) (cells : Entries) (id q : List ℕ)
    (label : List (List ℕ)) → find text_cmp q (live (offered_cells offer cells) id) ≡ Some label
    → is_offered offer q ≡ true
found_is_offered offer cells id q label found =
    shown_by offer q (live cells id) label
    (ap (find text_cmp q) (sym (live_offered offer cells id)) ∙ found)

all_shown : (offer : List Item) (labels : Labelled)
    → All (λ e. IsTrue (is_offered offer e.0)) (offered_labels offer labels)
all_shown offer [] = All-nil (λ (e : List ℕ × List (List ℕ)). IsTrue (is_offered offer e.0))
all_shown offer (e ∷ es) = elim (cases_Bool (is_offered offer e.0)) [
  | inl shown ↦
      rw shown
      (All-cons (λ (x : List ℕ × List (List ℕ)). IsTrue (is_offered offer x.0)) e
      (offered_labels offer es) shown (all_shown offer es))
  | inr hidden ↦ rw hidden (all_shown offer es)
]

picked_shown : (offer : List Item) (labels : Labelled) (picks : List Pick)
    → All (λ e. IsTrue (is_offered offer e.0)) labels
    → All (λ e. IsTrue (is_offered offer e.0)) (picked labels picks)
picked_shown offer labels [] all =
    All-nil (λ (e : List ℕ × List (List ℕ) × ℕ). IsTrue (is_offered offer e.0))
picked_shown offer labels (p ∷ ps) all =
    let rest = picked_shown offer labels ps all in
    elim (slice_get labels p.place) as
    (λ o. slice_get labels p.place ≡ o → All (λ e. IsTrue (is_offered offer e.0))
    (cons_option (with_weight o p.weight) (picked labels ps))) [
      | None ↦ λ e. rest
      | Some x ↦ λ e.
          All-cons (λ (y : List ℕ × List (List ℕ) × ℕ). IsTrue (is_offered offer y.0))
          (x.0, x.1, p.weight) (picked labels ps)
          (All-contains (λ (y : List ℕ × List (List ℕ)). IsTrue (is_offered offer y.0)) labels x
          all (
            p.place,
            slice_get_within labels p.place x e,
            get_or_from_slice_get labels p.place x x e,
          )) rest
    ] refl

-- What a filter answers of a catalogue of what is offered is offered.
pub filtered_is_offered : (offer : List Item) (cells : Entries) (id : List ℕ) (scheme : Scheme)
    (items : List Item) (answer : Weighed)
    → IsFilterAnswer (offered_cells offer cells) id scheme items answer
    → All (λ e. IsTrue (is_offered offer e.0)) answer
filtered_is_offered offer cells id scheme items answer f =
    subst (All (λ e. IsTrue (is_offered offer e.0))) (sym f.answer_is)
    (picked_shown offer (live (offered_cells offer cells) id) f.picks
    (subst (All (λ e. IsTrue (is_offered offer e.0))) (sym (live_offered offer cells id))
    (all_shown offer (live cells id))))

-- Catalogues that have the same cells in the languages that are offered are one under the offer.
pub same_offered : (offer : List Item) (a b : Entries) → IsMap key_cmp a → IsMap key_cmp b
    → ((key : EntryKey) → IsTrue (is_offered offer key.1)
    → find key_cmp key a ≡ find key_cmp key b)
    → offered_cells offer a ≡ offered_cells offer b
same_offered offer a b m n same =
    same_maps key_cmp key_cmp_total key_cmp_exact (offered_cells offer a) (offered_cells offer b)
    (filter-IsMap key_cmp (λ (e : Entry). is_offered offer e.0.1) a m)
    (filter-IsMap key_cmp (λ (e : Entry). is_offered offer e.0.1) b n)
    (λ k. elim (cases_Bool (is_offered offer k.1)) [
      | inl shown ↦
          find-kept (λ q. is_offered offer q.1) k a
          ∙ (ap (λ o. cond (is_offered offer k.1) o None) (same k shown)
          ∙ sym (find-kept (λ q. is_offered offer q.1) k b))
      | inr hidden ↦
          find-kept (λ q. is_offered offer q.1) k a
          ∙ (ap (λ t. cond t (find key_cmp k a) None) hidden
          ∙ (sym (ap (λ t. cond t (find key_cmp k b) None) hidden)
          ∙ sym (find-kept (λ q. is_offered offer q.1) k b)))
    ])
