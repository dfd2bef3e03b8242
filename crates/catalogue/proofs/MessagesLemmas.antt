-- The messages of a catalogue that have live labels.
use Rattle.std.specs.Prelude.{◌↔◌, T}
use Rattle.std.proofs.Common.{◌≡◌, ℕ, true, false, cond, List, [], ◌∷◌, Option, Some, None, refl}
use Rattle.std.proofs.Common.{sym, ap, ◌∙◌, subst}
use Rattle.std.specs.List.{cons_option}
use Rattle.std.specs.Option.{option_map}
use Rattle.std.specs.Ordering.{is_eq, is_lt}
use Rattle.std.specs.Cmp.Lexicographic.{nat_list_cmp_total}
use Rattle.std.specs.FinMap.Entries.{find, below_all, is_sorted}
use Rattle.list_core.specs.Item.{Item}
use Rattle.nego_core.specs.declared.widening.Widening.{Widening}
use Rattle.cell_core.specs.Keyed.{IsMap}
use Rattle.cell_core.specs.inner.KeyedLaws.{same_maps}
use Rattle.catalogue.specs.declared.reply.Reply.{Reply}
use Rattle.catalogue.specs.declared.reply.Reply.TheVariants.{Matched, Default, Nothing}
use Rattle.catalogue.specs.Asking.{IsLookedUpIn, IsLookupAnswerBy}
use Rattle.cell_core.specs.Entry.{text_cmp}
use Rattle.catalogue.specs.Entries.{Entries}
use Rattle.catalogue.specs.CatalogueFlat.{flat}
use Rattle.catalogue.specs.inner.CatalogueFlat.{inner_of}
use Rattle.catalogue.specs.Live.{Labelled, live_of, live}
use Rattle.catalogue.specs.LiveMessages.{LiveMessage, if_any, AreMessages}
use Rattle.catalogue.specs.Messages.{with_live, live_messages}
use Rattle.catalogue.specs.CatalogueNested.{Inner, Nested, IsCatalogue}
use Rattle.cell_core.proofs.Basics.{first_part, second_part, both_parts, tied_order as tied}
use Rattle.catalogue.proofs.Basics.{some_same}
use Rattle.cell_core.proofs.KeyedPlacesLemmas.{find-below, below_tied}
use Rattle.catalogue.proofs.CatalogueFlatLemmas.{found_inner}
use Rattle.catalogue.proofs.LabelsLemmas.{live-flat}
use Rattle.catalogue.proofs.CatalogueNestedLemmas.{text_exact}

below-live_messages : (x : List ℕ) (es : Nested) → T (below_all text_cmp x es)
    → T (below_all text_cmp x (live_messages es))
below-live_messages x [] h = tt
below-live_messages x (e ∷ es) h =
    let rest =
    below-live_messages x es
    (second_part (is_lt (text_cmp x e.0)) (below_all text_cmp x es) h) in
    elim (if_any (live_of e.1)) as
    (λ o. T
    (below_all text_cmp x
    (cons_option (option_map (λ labels. (e.0, labels)) o) (live_messages es)))) [
      | None ↦ rest
      | Some labels ↦
          both_parts (is_lt (text_cmp x e.0)) (below_all text_cmp x (live_messages es))
          (first_part (is_lt (text_cmp x e.0)) (below_all text_cmp x es) h) rest
    ]

live_messages-IsMap : (es : Nested) → IsMap text_cmp es → IsMap text_cmp (live_messages es)
live_messages-IsMap [] h = tt
live_messages-IsMap (e ∷ es) h =
    let rest =
    live_messages-IsMap es
    (second_part (below_all text_cmp e.0 es) (is_sorted text_cmp es) h) in
    elim (if_any (live_of e.1)) as
    (λ o. IsMap text_cmp
    (cons_option (option_map (λ labels. (e.0, labels)) o) (live_messages es))) [
      | None ↦ rest
      | Some labels ↦
          both_parts (below_all text_cmp e.0 (live_messages es))
          (is_sorted text_cmp (live_messages es))
          (below-live_messages e.0 es
          (first_part (below_all text_cmp e.0 es) (is_sorted text_cmp es) h)) rest
    ]

find-live_messages : (q : List ℕ) (es : Nested) → IsMap text_cmp es
    → find text_cmp q (live_messages es) ≡ if_any (live_of (inner_of (find text_cmp q es)))
find-live_messages q [] sorted = refl
find-live_messages q (e ∷ es) sorted =
    let below = first_part (below_all text_cmp e.0 es) (is_sorted text_cmp es) sorted in
    let rest =
    find-live_messages q es
    (second_part (below_all text_cmp e.0 es) (is_sorted text_cmp es) sorted) in
    elim (is_eq (text_cmp q e.0)) as
    (λ t. is_eq (text_cmp q e.0) ≡ t
    → find text_cmp q (cons_option (with_live e) (live_messages es))
    ≡ if_any (live_of (inner_of (cond t (Some e.1) (find text_cmp q es))))) [
      | true ↦ λ t.
          let none =
          find-below text_cmp q es
          (below_tied text_cmp nat_list_cmp_total q e.0 es (tied (text_cmp q e.0) t) below)
          in
          elim (if_any (live_of e.1)) as
          (λ o. find text_cmp q
          (cons_option (option_map (λ labels. (e.0, labels)) o) (live_messages es)) ≡ o) [
            | None ↦ rest ∙ ap (λ (o : Option Inner). if_any (live_of (inner_of o))) none
            | Some labels ↦ ap (λ b. cond b (Some labels) (find text_cmp q (live_messages es))) t
          ]
      | false ↦ λ t.
          elim (if_any (live_of e.1)) as
          (λ o. find text_cmp q
          (cons_option (option_map (λ labels. (e.0, labels)) o) (live_messages es))
          ≡ if_any (live_of (inner_of (find text_cmp q es)))) [
            | None ↦ rest
            | Some labels ↦
                ap (λ b. cond b (Some labels) (find text_cmp q (live_messages es))) t ∙ rest
          ]
    ] refl

-- ---- the languages of a message

below-live_of : (x : List ℕ) (es : Inner) → T (below_all text_cmp x es)
    → T (below_all text_cmp x (live_of es))
below-live_of x [] h = tt
below-live_of x (e ∷ es) h =
    let rest =
    below-live_of x es (second_part (is_lt (text_cmp x e.0)) (below_all text_cmp x es) h) in
    elim e.1.label as
    (λ o. T
    (below_all text_cmp x (cons_option (option_map (λ label. (e.0, label)) o) (live_of es)))) [
      | None ↦ rest
      | Some label ↦
          both_parts (is_lt (text_cmp x e.0)) (below_all text_cmp x (live_of es))
          (first_part (is_lt (text_cmp x e.0)) (below_all text_cmp x es) h) rest
    ]

-- The languages of the live labels of an inner map strictly ascend.
pub live_of-IsMap : (es : Inner) → IsMap text_cmp es → IsMap text_cmp (live_of es)
live_of-IsMap [] h = tt
live_of-IsMap (e ∷ es) h =
    let rest =
    live_of-IsMap es (second_part (below_all text_cmp e.0 es) (is_sorted text_cmp es) h) in
    elim e.1.label as
    (λ o. IsMap text_cmp (cons_option (option_map (λ label. (e.0, label)) o) (live_of es))) [
      | None ↦ rest
      | Some label ↦
          both_parts (below_all text_cmp e.0 (live_of es)) (is_sorted text_cmp (live_of es))
          (below-live_of e.0 es (first_part (below_all text_cmp e.0 es) (is_sorted text_cmp es) h))
          rest
    ]

-- The languages of a message's live labels strictly ascend.
pub languages_ascend : (m : Nested) → IsCatalogue m → (id : List ℕ)
    → IsMap text_cmp (live (flat m) id)
languages_ascend m nested id =
    subst (IsMap text_cmp) (live-flat id m nested.outer)
    (elim (find text_cmp id m) as
    (λ o. find text_cmp id m ≡ o → IsMap text_cmp (live_of (inner_of o))) [
      | None ↦ λ e. tt
      | Some inner ↦ λ e. let is =
          found_inner text_cmp text_cmp nat_list_cmp_total m nested id inner e in
          live_of-IsMap inner is.map
    ] refl)

-- ---- all of them

-- The computed messages are those with live labels, each once, in ascending order of id.
pub are_messages : (m : Nested) → IsMap text_cmp m → AreMessages (flat m) (live_messages m)
are_messages m sorted = record {
  ascend = live_messages-IsMap m sorted;
  each = λ id. find-live_messages id m sorted ∙ ap if_any (live-flat id m sorted);
}

-- ---- laws

-- A catalogue has only one list of messages with live labels.
pub one_list_of_messages : (cells : Entries) (a b : List LiveMessage) → AreMessages cells a
    → AreMessages cells b → a ≡ b
one_list_of_messages cells a b f g =
    same_maps text_cmp nat_list_cmp_total text_exact a b f.ascend g.ascend
    (λ id. f.each id ∙ sym (g.each id))

labels_are : (labels found : Labelled) → if_any found ≡ Some labels → labels ≡ found
labels_are labels [] = λ e. absurd (cc)
labels_are labels (label ∷ rest) = λ e. sym (some_same (label ∷ rest) labels e)

no_labels : (found : Labelled) → if_any found ≡ None → found ≡ []
no_labels [] = λ e. refl
no_labels (label ∷ rest) = λ e. absurd (cc)

-- over no labels a lookup answers nothing
nothing_live : (widening : Widening) (items : List Item) (default : Option (List ℕ)) (reply : Reply)
    → IsLookedUpIn widening [] items default reply → reply ≡ Nothing
nothing_live widening items default (Matched lang label) = λ h.
    let none : None ≡ Some label = h.1 in absurd (cc)
nothing_live widening items default (Default lang label) = λ h.
    let none : None ≡ Some label = h.3 in absurd (cc)
nothing_live widening items default Nothing = λ h. refl

module _ (cells : Entries) (messages : List LiveMessage) (are : AreMessages cells messages)
    (id : List ℕ) where
  -- a message answers a lookup, widened or not, as the catalogue does
  pub a_message_answers : (labels : Labelled) → find text_cmp id messages ≡ Some labels
      → (widening : Widening) (items : List Item) (default : Option (List ℕ)) (reply : Reply)
      → IsLookedUpIn widening labels items default reply
      ↔ IsLookupAnswerBy widening cells id items default reply
  a_message_answers labels found widening items default reply =
      let same = labels_are labels (live cells id) (sym (are.each id) ∙ found) in (
        λ h. subst (λ (l : Labelled). IsLookedUpIn widening l items default reply) same h,
        λ h. subst (λ (l : Labelled). IsLookedUpIn widening l items default reply) (sym same) h,
      )

  -- where a message has no live labels its lookup answers nothing
  pub no_message_answers : find text_cmp id messages ≡ None → (widening : Widening)
      (items : List Item) (default : Option (List ℕ)) (reply : Reply)
      → IsLookupAnswerBy widening cells id items default reply → reply ≡ Nothing
  no_message_answers found widening items default reply h =
      let none = no_labels (live cells id) (sym (are.each id) ∙ found) in
      let over = subst (λ (l : Labelled). IsLookedUpIn widening l items default reply) none h in
      nothing_live widening items default reply over
