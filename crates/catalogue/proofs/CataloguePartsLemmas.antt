-- Catalogues in parts.
use Rattle.std.proofs.Common.{◌≡◌, ℕ, Bool, true, false, cond, List, [], ◌∷◌, Option, Some, None}
use Rattle.std.proofs.Common.{inl, inr, refl, sym, ap, ◌∙◌, subst}
use Rattle.std.specs.Prelude.{◌↔◌, IsTrue, filter, map}
use Rattle.std.specs.Ordering.{is_eq, eq_by_cmp}
use Rattle.std.specs.FinMap.Entries.{find}
use Rattle.list_core.specs.Item.{Item}
use Rattle.list_core.specs.declared.scheme.Scheme.{Scheme}
use Rattle.nego_core.specs.declared.widening.Widening.{Widening}
use Rattle.nego_core.specs.declared.widening.Widening.TheVariants.{Off}
use Rattle.cell_core.specs.declared.cell.Cell.{Cell}
use Rattle.cell_core.specs.Cell.{AgreeCells, joined_cells}
use Rattle.cell_core.specs.Keyed.{IsMap, AgreeIfBoth, joined_if_both}
use Rattle.cell_core.specs.inner.KeyedLaws.{joined_maps-IsMap, find-joined_maps, same_maps}
use Rattle.catalogue.specs.declared.reply.Reply.{Reply}
use Rattle.cell_core.specs.Entry.{EntryKey, key_cmp, text_cmp}
use Rattle.cell_core.specs.inner.Entry.{key_cmp_total, key_cmp_exact}
use Rattle.catalogue.specs.Entries.{Entry, Entries, Agree, joined}
use Rattle.catalogue.specs.Live.{Labelled, live_of, live}
use Rattle.catalogue.specs.Asking.{Weighed, IsFilteredOf, IsFilterAnswer, IsLookedUpIn}
use Rattle.catalogue.specs.Asking.{IsLookupAnswer, IsLookupAnswerBy}
use Rattle.catalogue.specs.CatalogueParts.{part_of}
use Rattle.cell_core.proofs.Basics.{tied_order as tied}
use Rattle.catalogue.proofs.CatalogueBestLemmas.{same_key}
use Rattle.catalogue.proofs.EntriesFilteredLemmas.{filter-IsMap}
use Rattle.catalogue.proofs.CatalogueNestedLemmas.{text_exact}

-- what those that are kept by their keys have at a key: what all have, where the key is kept
pub find-kept : {J : Type 0} (keeps : EntryKey → Bool) (q : EntryKey) (es : List (EntryKey × J))
    → find key_cmp q (filter (λ e. keeps e.0) es) ≡ cond (keeps q) (find key_cmp q es) None
find-kept {J} keeps q [] =
    elim (keeps q) as
    (λ b. ◌≡◌ {A = Option J} None (cond b None None)) [ true ↦ refl | false ↦ refl ]
find-kept {J} keeps q (e ∷ es) =
    let kept : List (EntryKey × J) = filter (λ x. keeps x.0) es in
    let rest = find-kept keeps q es in
    elim (eq_by_cmp key_cmp q e.0) as
    (λ t. eq_by_cmp key_cmp q e.0 ≡ t
    → find key_cmp q (cond (keeps e.0) (e ∷ kept) kept)
    ≡ cond (keeps q) (cond t (Some e.1) (find key_cmp q es)) None) [
      | true ↦ λ t.
          let asked : keeps q ≡ keeps e.0 = ap keeps (same_key q e.0 t) in
          elim (keeps e.0) as
          (λ b. keeps e.0 ≡ b
          → find key_cmp q (cond b (e ∷ kept) kept) ≡ cond (keeps q) (Some e.1) None) [
            | true ↦
                λ b. ap (λ u. cond u (Some e.1) (find key_cmp q kept)) t
                ∙ ap (λ u. cond u (Some e.1) None) (sym (asked ∙ b))
            | false ↦
                λ b. rest ∙ ap (λ u. cond u (find key_cmp q es) None) (asked ∙ b)
                ∙ ap (λ u. cond u (Some e.1) None) (sym (asked ∙ b))
          ] refl
      | false ↦
          λ t. elim (keeps e.0) as
          (λ b. find key_cmp q (cond b (e ∷ kept) kept)
          ≡ cond (keeps q) (find key_cmp q es) None) [
            | true ↦ ap (λ u. cond u (Some e.1) (find key_cmp q kept)) t ∙ rest
            | false ↦ rest
          ]
    ] refl

-- what the part has at a key: what the whole has, where the message is of the part
pub find-part : {J : Type 0} (messages : List ℕ → Bool) (q : EntryKey) (es : List (EntryKey × J))
    → find key_cmp q (part_of messages es) ≡ cond (messages q.0) (find key_cmp q es) None
find-part messages q es = find-kept (λ k. messages k.0) q es

part-IsMap : (messages : List ℕ → Bool) (es : Entries) → IsMap key_cmp es
    → IsMap key_cmp (part_of messages es)
part-IsMap messages es m = filter-IsMap key_cmp (λ (e : Entry). messages e.0.0) es m

-- ---- joins

agree_kept : (t : Bool) (x y : Option Cell) → AgreeIfBoth AgreeCells x y
    → AgreeIfBoth AgreeCells (cond t x None) (cond t y None)
agree_kept true x y h = h
agree_kept false x y h = tt

joined_kept : (t : Bool) (x y : Option Cell)
    → cond t (joined_if_both joined_cells x y) None
    ≡ joined_if_both joined_cells (cond t x None) (cond t y None)
joined_kept true x y = refl
joined_kept false x y = refl

-- The parts of two catalogues that agree, of the same messages, agree.
pub parts_agree : (messages : List ℕ → Bool) (a b : Entries) → Agree a b
    → Agree (part_of messages a) (part_of messages b)
parts_agree messages a b agree =
    elim agree as (λ _. Agree (part_of messages a) (part_of messages b)) [
      | inl e ↦ inl (ap (part_of messages) e)
      | inr r ↦ inr (record {
        first = part-IsMap messages a r.first;
        second = part-IsMap messages b r.second;
        at = λ q. subst (λ o. AgreeIfBoth AgreeCells o (find key_cmp q (part_of messages b)))
            (sym (find-part messages q a))
            (subst (AgreeIfBoth AgreeCells (cond (messages q.0) (find key_cmp q a) None))
            (sym (find-part messages q b))
            (agree_kept (messages q.0) (find key_cmp q a) (find key_cmp q b) (r.at q)));
      })
    ]

-- The part of a join is the join of the parts.
pub parts_join : (messages : List ℕ → Bool) (a b : Entries) → IsMap key_cmp a → IsMap key_cmp b
    → part_of messages (joined a b) ≡ joined (part_of messages a) (part_of messages b)
parts_join messages a b m n =
    let p = part-IsMap messages a m in
    let q = part-IsMap messages b n in
    same_maps key_cmp key_cmp_total key_cmp_exact (part_of messages (joined a b))
    (joined (part_of messages a) (part_of messages b))
    (part-IsMap messages (joined a b)
    (joined_maps-IsMap key_cmp key_cmp_total joined_cells a b m n))
    (joined_maps-IsMap key_cmp key_cmp_total joined_cells (part_of messages a) (part_of messages b)
    p q)
    (λ k. find-part messages k (joined a b)
    ∙ ap (λ o. cond (messages k.0) o None)
    (find-joined_maps key_cmp key_cmp_total joined_cells a b m n k)
    ∙ joined_kept (messages k.0) (find key_cmp k a) (find key_cmp k b)
    ∙ (λ i. joined_if_both joined_cells (sym (find-part messages k a) i)
    (sym (find-part messages k b) i))
    ∙ sym (find-joined_maps key_cmp key_cmp_total joined_cells (part_of messages a)
    (part_of messages b) p q k))

-- ---- questions

module _ (messages : List ℕ → Bool) (id : List ℕ) (inside : messages id ≡ true) where
  abbrev is_own : Entry → Bool
  is_own e = is_eq (text_cmp id e.0.0)

  own_cells : (es : Entries) → filter is_own (part_of messages es) ≡ filter is_own es
  own_cells [] = refl
  own_cells (e ∷ es) =
      let rest = own_cells es in
      let part = part_of messages es in
      elim (is_own e) as
      (λ t. is_own e ≡ t
      → filter is_own (cond (messages e.0.0) (e ∷ part) part)
      ≡ cond t (e ∷ filter is_own es) (filter is_own es)) [
        | true ↦ λ t.
            let same : id ≡ e.0.0 = text_exact id e.0.0 (tied (text_cmp id e.0.0) t) in
            ap (λ u. filter is_own (cond u (e ∷ part) part)) (ap messages (sym same) ∙ inside)
            ∙ ap (λ u. cond u (e ∷ filter is_own part) (filter is_own part)) t
            ∙ ap (λ xs. e ∷ xs) rest
        | false ↦
            λ t. elim (messages e.0.0) as
            (λ b. filter is_own (cond b (e ∷ part) part) ≡ filter is_own es) [
              | true ↦ ap (λ u. cond u (e ∷ filter is_own part) (filter is_own part)) t ∙ rest
              | false ↦ rest
            ]
      ] refl

  -- the live labels of a message are in its part
  live_in_part : (cells : Entries) → live (part_of messages cells) id ≡ live cells id
  live_in_part cells =
      ap (λ (es : Entries). live_of (map (λ (e : Entry). (e.0.1, e.1)) es)) (own_cells cells)

-- A filter for a message of the part has the same answers over the part as over the whole.
pub part_filters : (messages : List ℕ → Bool) (cells : Entries) (id : List ℕ) → IsTrue (messages id)
    → (scheme : Scheme) (items : List Item) (answer : Weighed)
    → IsFilterAnswer (part_of messages cells) id scheme items answer
    ↔ IsFilterAnswer cells id scheme items answer
part_filters messages cells id inside scheme items answer =
    let same = live_in_part messages id inside cells in (
      λ h. subst (λ (labels : Labelled). IsFilteredOf labels scheme items answer) same h,
      λ h. subst (λ (labels : Labelled). IsFilteredOf labels scheme items answer) (sym same) h,
    )

-- a lookup of a message, widened or not, is answered by its part as by the whole
pub part_looks_up_by : (messages : List ℕ → Bool) (cells : Entries) (id : List ℕ)
    → IsTrue (messages id) → (widening : Widening) (items : List Item) (default : Option (List ℕ))
    (answer : Reply) → IsLookupAnswerBy widening (part_of messages cells) id items default answer
    ↔ IsLookupAnswerBy widening cells id items default answer
part_looks_up_by messages cells id inside widening items default answer =
    let same = live_in_part messages id inside cells in (
      λ h. subst (λ (l : Labelled). IsLookedUpIn widening l items default answer) same h,
      λ h. subst (λ (l : Labelled). IsLookedUpIn widening l items default answer) (sym same) h,
    )

-- the same of RFC 4647's lookup
pub part_looks_up : (messages : List ℕ → Bool) (cells : Entries) (id : List ℕ)
    → IsTrue (messages id) → (items : List Item) (default : Option (List ℕ)) (answer : Reply)
    → IsLookupAnswer (part_of messages cells) id items default answer
    ↔ IsLookupAnswer cells id items default answer
part_looks_up messages cells id inside = part_looks_up_by messages cells id inside Off
