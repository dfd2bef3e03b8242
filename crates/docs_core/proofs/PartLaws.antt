-- Exports, missing labels and bundles: in parts, and one of each.
--
-- An export and the missing labels are made message by message, so a part of the messages gives
-- that part of the answer, by induction over the list of messages. A bundle chooses for each
-- message among its own labels alone, so the same holds of it. That a bundle is one follows from
-- its definition: at each message the choice is one, and two maps with the same value at each key
-- are one.
use Rattle.std.proofs.Common.{◌≡◌, ◌∙◌, ℕ, Bool, true, false, cond, List, [], ◌∷◌, Option, Some}
use Rattle.std.proofs.Common.{None, ap, sym, subst, refl, inl, inr, true≢false}
use Rattle.std.specs.Prelude.{◌↔◌, Contains, IsTrue, filter, option_map}
use Rattle.std.specs.FinMap.Entries.{find}
use Rattle.std.specs.List.{cons_option}
use Rattle.std.specs.Option.{is_none, option_and_then}
use Rattle.std.specs.Ordering.{eq_by_cmp}
use Rattle.cell_core.specs.inner.KeyedLaws.{same_maps}
use Rattle.cell_core.specs.Entry.{EntryKey, key_cmp}
use Rattle.cell_core.specs.inner.Entry.{key_cmp_exact, key_cmp_total}
use Rattle.catalogue.specs.Entries.{Entries}
use Rattle.catalogue.specs.CatalogueParts.{part_of}
use Rattle.catalogue.proofs.Basics.{some_same}
use Rattle.catalogue.proofs.CatalogueBestLemmas.{own_key, same_key}
use Rattle.catalogue.proofs.EntriesFilteredLemmas.{filter-IsMap}
use Rattle.catalogue.proofs.CatalogueMembersLemmas.{Contains-from_in, In, filter_in, in_filter}
use Rattle.catalogue.proofs.CatalogueMembersLemmas.{in_from_Contains}
use Rattle.catalogue.proofs.CataloguePartsLemmas.{find-part, part_looks_up_by}
use Rattle.catalogue.specs.declared.reply.Reply.TheVariants.{Default, Matched}
use Rattle.list_core.specs.Item.{Item}
use Rattle.nego_core.specs.declared.widening.Widening.{Widening}
use Rattle.map_docs.specs.Maps.{Labelled}
use Rattle.query_docs.specs.Bundling.{IsAnswer, IsBundleBy}
use Rattle.query_docs.specs.Exporting.{label_at, live_labels}
use Rattle.query_docs.specs.Missing.{missing_labels}
use Rattle.query_docs.proofs.BundlingLemmas.{answer_live, label_of}

-- ---- exports

-- The live labels of a part are the part of the live labels.
pub live_of_part : (messages : List ℕ → Bool) (cells : Entries)
    → live_labels (part_of messages cells) ≡ part_of messages (live_labels cells)
live_of_part messages [] = refl
live_of_part messages (e ∷ es) =
    let rest = live_of_part messages es in
    let part = part_of messages es in
    let labels = part_of messages (live_labels es) in
    elim (messages e.0.0) as
    (λ b. messages e.0.0 ≡ b
    → live_labels (cond b (e ∷ part) part)
    ≡ part_of messages (cons_option (option_map (λ l. (e.0, l)) e.1.label) (live_labels es))) [
      | true ↦
          λ b. elim e.1.label as
          (λ o. cons_option (option_map (λ l. (e.0, l)) o) (live_labels part)
          ≡ part_of messages (cons_option (option_map (λ l. (e.0, l)) o) (live_labels es))) [
            | None ↦ rest
            | Some l ↦
                ap (λ (xs : List Labelled). (e.0, l) ∷ xs) rest
                ∙ ap (λ u. cond u ((e.0, l) ∷ labels) labels) (sym b)
          ]
      | false ↦
          λ b. elim e.1.label as
          (λ o. live_labels part
          ≡ part_of messages (cons_option (option_map (λ l. (e.0, l)) o) (live_labels es))) [
            | None ↦ rest
            | Some l ↦ rest ∙ ap (λ u. cond u ((e.0, l) ∷ labels) labels) (sym b)
          ]
    ] refl

-- ---- missing labels

-- a choice that a part makes as the whole does
pub chosen_of_part : (messages : List ℕ → Bool) (p q : Labelled → Bool)
    → ((e : Labelled) → messages e.0.0 ≡ true → p e ≡ q e) → (es : List Labelled)
    → filter p (part_of messages es) ≡ part_of messages (filter q es)
chosen_of_part messages p q same [] = refl
chosen_of_part messages p q same (e ∷ es) =
    let rest = chosen_of_part messages p q same es in
    let part = part_of messages es in
    let chosen = part_of messages (filter q es) in
    elim (messages e.0.0) as
    (λ b. messages e.0.0 ≡ b
    → filter p (cond b (e ∷ part) part)
    ≡ part_of messages (cond (q e) (e ∷ filter q es) (filter q es))) [
      | true ↦ λ b.
          ap (λ u. cond u (e ∷ filter p part) (filter p part)) (same e b)
          ∙ elim (q e) as
          (λ u. cond u (e ∷ filter p part) (filter p part)
          ≡ part_of messages (cond u (e ∷ filter q es) (filter q es))) [
            | true ↦
                ap (λ (xs : List Labelled). e ∷ xs) rest
                ∙ ap (λ u. cond u (e ∷ chosen) chosen) (sym b)
            | false ↦ rest
          ]
      | false ↦
          λ b. elim (q e) as
          (λ u. filter p part ≡ part_of messages (cond u (e ∷ filter q es) (filter q es))) [
            | true ↦ rest ∙ ap (λ u. cond u (e ∷ chosen) chosen) (sym b)
            | false ↦ rest
          ]
    ] refl

-- The missing labels of a part are the part of the missing labels.
pub missing_of_part : (messages : List ℕ → Bool) (lang : List ℕ) (cells : Entries)
    → missing_labels lang (part_of messages cells) ≡ part_of messages (missing_labels lang cells)
missing_of_part messages lang cells =
    let of_part : Labelled → Bool =
    λ e. is_none (label_at (e.0.0, lang) (part_of messages cells)) in
    let of_whole : Labelled → Bool = λ e. is_none (label_at (e.0.0, lang) cells) in
    ap (filter of_part) (live_of_part messages cells)
    ∙ chosen_of_part messages of_part of_whole
    (λ e inside. ap (λ o. is_none (option_and_then (λ c. c.label) o))
    (find-part messages (e.0.0, lang) cells
    ∙ ap (λ u. cond u (find key_cmp (e.0.0, lang) cells) None) inside))
    (live_labels cells)

-- ---- bundles

module _ (widening : Widening) (cells : Entries) (items : List Item) (default : Option (List ℕ))
  where
    answer_of_part : (messages : List ℕ → Bool) (e : Labelled) → messages e.0.0 ≡ true
        → IsAnswer widening (part_of messages cells) items default e
        ↔ IsAnswer widening cells items default e
    answer_of_part messages e inside =
        let matched =
        part_looks_up_by messages cells e.0.0 inside widening items default (Matched e.0.1 e.1) in
        let chosen =
        part_looks_up_by messages cells e.0.0 inside widening items default
        (Default e.0.1 e.1) in (
          λ h. elim h [ inl m ↦ inl (matched.0 m) | inr d ↦ inr (chosen.0 d) ],
          λ h. elim h [ inl m ↦ inl (matched.1 m) | inr d ↦ inr (chosen.1 d) ],
        )

    answered_part : (messages : List ℕ → Bool) (labels : List Labelled)
        → IsBundleBy widening cells items default labels → (e : Labelled)
        → Contains (part_of messages labels) e
        → IsAnswer widening (part_of messages cells) items default e
    answered_part messages labels bundle e at =
        let kept =
        in_filter (λ (x : Labelled). messages x.0.0) labels e
        (in_from_Contains (part_of messages labels) e at) in
        (answer_of_part messages e kept.1).1
        ((bundle.answered e).0 (Contains-from_in labels e kept.0))

    part_answered : (messages : List ℕ → Bool) (labels : List Labelled)
        → IsBundleBy widening cells items default labels → (e : Labelled)
        → IsAnswer widening (part_of messages cells) items default e
        → Contains (part_of messages labels) e
    part_answered messages labels bundle e answer =
        let own : Contains (part_of messages (live_labels cells)) e =
        subst (λ xs. Contains xs e) (live_of_part messages cells)
        (answer_live widening (part_of messages cells) items default e answer) in
        let inside =
        (in_filter (λ (x : Labelled). messages x.0.0) (live_labels cells) e
        (in_from_Contains (part_of messages (live_labels cells)) e own)).1 in
        let there = (bundle.answered e).1 ((answer_of_part messages e inside).0 answer) in
        Contains-from_in (part_of messages labels) e
        (filter_in (λ (x : Labelled). messages x.0.0) labels e (in_from_Contains labels e there)
        inside)

    -- the bundle of a part of the messages is that part of the bundle
    pub bundle_of_part : (messages : List ℕ → Bool) (labels : List Labelled)
        → IsBundleBy widening cells items default labels
        → IsBundleBy widening (part_of messages cells) items default (part_of messages labels)
    bundle_of_part messages labels bundle = record {
      ascending = filter-IsMap key_cmp (λ (x : Labelled). messages x.0.0) labels bundle.ascending;
      answered =
          λ e. (answered_part messages labels bundle e, part_answered messages labels bundle e);
    }

-- ---- nothing to print

nothing : (parts : ℕ → List ℕ → Bool) → ((id : List ℕ) → (k : ℕ) × IsTrue (parts k id))
    → (labels : List Labelled) → ((k : ℕ) → part_of (parts k) labels ≡ []) → labels ≡ []
nothing parts covers [] none = refl
nothing parts covers (e ∷ es) none =
    let at = covers e.0.0 in
    let part = part_of (parts at.0) es in
    let kept : e ∷ part ≡ [] = ap (λ u. cond u (e ∷ part) part) (sym at.1) ∙ none at.0 in
    absurd (cc)

-- where each message is in some part, nothing is in the whole just where nothing is in any part
pub nothing_in_parts : (parts : ℕ → List ℕ → Bool) → ((id : List ℕ) → (k : ℕ) × IsTrue (parts k id))
    → (labels : List Labelled)
    → (labels ≡ []) ↔ ((k : ℕ) → part_of (parts k) labels ≡ [])
nothing_in_parts parts covers labels =
    (λ e k. ap (part_of (parts k)) e, nothing parts covers labels)

-- ---- a bundle is one

found : (es : List Labelled) (k : EntryKey) (label : List (List ℕ)) → find key_cmp k es ≡ Some label
    → In es (k, label)
found [] k label h = absurd (cc)
found (e ∷ es) k label h =
    elim (eq_by_cmp key_cmp k e.0) as
    (λ t. eq_by_cmp key_cmp k e.0 ≡ t → cond t (Some e.1) (find key_cmp k es) ≡ Some label
    → In (e ∷ es) (k, label)) [
      | true ↦ λ t is. inl (λ i. (sym (same_key k e.0 t) i, some_same e.1 label is i))
      | false ↦ λ t is. inr (found es k label is)
    ] refl h

finds : (es : List Labelled) (k : EntryKey) (label : List (List ℕ)) → In es (k, label)
    → (other : List (List ℕ)) × (find key_cmp k es ≡ Some other)
finds [] k label h = absurd h
finds (e ∷ es) k label h =
    elim (eq_by_cmp key_cmp k e.0) as
    (λ t. eq_by_cmp key_cmp k e.0 ≡ t
    → (other : List (List ℕ)) × (cond t (Some e.1) (find key_cmp k es) ≡ Some other)) [
      | true ↦ λ t. (e.1, refl)
      | false ↦ λ t. elim h as (λ _. (other : List (List ℕ)) × (find key_cmp k es ≡ Some other)) [
        | inl s ↦
            absurd
            (true≢false
            (sym (own_key k) ∙ ap (λ (x : Labelled). eq_by_cmp key_cmp k x.0) (sym s) ∙ t))
        | inr r ↦ finds es k label r
      ]
    ] refl

module _ (widening : Widening) (cells : Entries) (items : List Item) (default : Option (List ℕ))
    (a b : List Labelled) (first : IsBundleBy widening cells items default a)
    (second : IsBundleBy widening cells items default b) where
  -- what the one has at a key, the other has too
  has_too : (k : EntryKey) (label : List (List ℕ)) → find key_cmp k a ≡ Some label
      → find key_cmp k b ≡ Some label
  has_too k label h =
      let answer =
      (first.answered (k, label)).0 (Contains-from_in a (k, label) (found a k label h)) in
      let there =
      finds b k label (in_from_Contains b (k, label) ((second.answered (k, label)).1 answer)) in
      let other =
      (second.answered (k, there.0)).0
      (Contains-from_in b (k, there.0) (found b k there.0 there.1)) in
      let same : Some there.0 ≡ Some label =
      sym (label_of widening cells items default (k, there.0) other)
      ∙ label_of widening cells items default (k, label) answer in
      there.1 ∙ same

-- A priority list and a default have only one bundle of labels over the same cells.
pub one_bundle : (widening : Widening) (cells : Entries) (items : List Item)
    (default : Option (List ℕ)) (a b : List Labelled) → IsBundleBy widening cells items default a
    → IsBundleBy widening cells items default b → a ≡ b
one_bundle widening cells items default a b first second =
    same_maps key_cmp key_cmp_total key_cmp_exact a b first.ascending second.ascending
    (λ k. elim (find key_cmp k a) as (λ o. find key_cmp k a ≡ o → o ≡ find key_cmp k b) [
      | Some label ↦ λ h. sym (has_too widening cells items default a b first second k label h)
      | None ↦ λ h. elim (find key_cmp k b) as (λ o. find key_cmp k b ≡ o → None ≡ o) [
        | Some label ↦
            λ g. absurd
            (let back = has_too widening cells items default b a second first k label g in cc)
        | None ↦ λ g. refl
      ] refl
    ] refl)
