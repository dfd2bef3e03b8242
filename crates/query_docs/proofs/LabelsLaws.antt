-- The labels of each language: their sum, their messages, and those of parts.
--
-- A catalogue has one list of counts, so what is shown of the list that is made here, cell by cell,
-- holds of each.
use Rattle.std.proofs.Common.{◌≡◌, ◌∙◌, ◌+◌, ◌<◌, ℕ, Bool, List, [], ◌∷◌, ap, arith, cond, count_by}
use Rattle.std.proofs.Common.{false, inl, inr, refl, suc, sym, true, true≢false, zero}
use Rattle.std.specs.Prelude.{◌&&◌, ◌↔◌, ◌⊎◌, IsSome, None, Option, Some, T, filter, is_some, map}
use Rattle.std.specs.Prelude.{not, option_map, sum_by}
use Rattle.std.specs.List.{cons_option}
use Rattle.std.specs.declared.cmp.Ordering.{Ordering}
use Rattle.std.specs.declared.cmp.Ordering.TheVariants.{Equal, Greater, Less}
use Rattle.std.specs.Ordering.{eq_by_cmp, is_eq, is_lt, ordering_then}
use Rattle.std.specs.Cmp.{IsTotalOrder}
use Rattle.std.specs.Cmp.Lexicographic.{nat_list_cmp_total}
use Rattle.std.specs.FinMap.Entries.{below_all, by_order, find, find-put, is_sorted, is_sorted-put}
use Rattle.std.specs.FinMap.Entries.{put}
use Rattle.std.proofs.lemmas.Bool.{cases_Bool}
use Rattle.std.proofs.lemmas.Cmp.{tied_itself}
use Rattle.std.proofs.lemmas.List.Sums.{sum_by-cons, sum_by-insert}
use Rattle.cell_core.specs.Cell.{joined_cells}
use Rattle.cell_core.specs.declared.cell.Cell.{Cell}
use Rattle.cell_core.specs.Keyed.{IsMap, joined_at, joined_entries, joined_if_both}
use Rattle.cell_core.specs.inner.KeyedLaws.{find-joined_entries, joined_of_maps, same_maps}
use Rattle.cell_core.specs.inner.KeyedPlaces.{place_of}
use Rattle.cell_core.specs.Entry.{EntryKey, key_cmp, text_cmp}
use Rattle.cell_core.specs.inner.Entry.{key_cmp_total}
use Rattle.catalogue.specs.Entries.{Entries, Entry, joined}
use Rattle.catalogue.specs.CatalogueParts.{part_of}
use Rattle.catalogue.specs.Live.{Labelled, is_live, live, live_of}
use Rattle.catalogue.specs.LiveMessages.{AreMessages, LiveMessage, if_any as labels_if_any}
use Rattle.cell_core.proofs.Basics.{first_part, less_than, second_part, tied_order as tied}
use Rattle.cell_core.proofs.KeyedPlacesLemmas.{below-trans, below_tied, find-below, put-gap}
use Rattle.catalogue.proofs.Basics.{first_so, second_so, some_same}
use Rattle.catalogue.proofs.CatalogueBestLemmas.{own_key, same_key}
use Rattle.catalogue.proofs.CatalogueNestedLemmas.{text_exact}
use Rattle.catalogue.proofs.MessagesLemmas.{one_list_of_messages}
use Rattle.query_docs.specs.Labels.{AreLabelCounts, LabelCounts, count_of, if_any, is_label_of}
use Rattle.query_docs.specs.Labels.{label_count}
use Rattle.query_docs.specs.Exporting.{label_at}
use Rattle.query_docs.specs.Status.{is_labelled}
use Rattle.query_docs.proofs.LabelsLemmas.{count_is, counted_more}

-- A catalogue has one list of counts.
pub one_counts : (cells : Entries) (a b : LabelCounts) → AreLabelCounts cells a
    → AreLabelCounts cells b → a ≡ b
one_counts cells a b x y =
    same_maps text_cmp nat_list_cmp_total text_exact a b x.ascend y.ascend
    (λ lang. x.each lang ∙ sym (y.each lang))

-- ---- sums over maps

module _ {K J : Type 0} (cmp : K → K → Ordering) (f : K × J → ℕ) where
  -- a sum gains the term of a key that is new
  sum_put_new : (k : K) (v : J) (es : List (K × J)) → find cmp k es ≡ None
      → sum_by f (put cmp k v es) ≡ sum_by f es + f (k, v)
  sum_put_new k v es none =
      ap (sum_by f) (put-gap cmp k v es none) ∙ sum_by-insert f es (place_of cmp k es) (k, v)

  module _ (total : IsTotalOrder cmp) (exact : (x y : K) → cmp x y ≡ Equal → x ≡ y) where
    -- a sum has the new term of a key in place of the old one
    sum_put_held : (k : K) (v u : J) (es : List (K × J)) → IsMap cmp es
        → find cmp k es ≡ Some u → sum_by f (put cmp k v es) + f (k, u) ≡ sum_by f es + f (k, v)
    sum_put_held k v u [] = λ m held. absurd (cc)
    sum_put_held k v u (e ∷ es) = λ m held.
        let below = first_part (below_all cmp e.0 es) (is_sorted cmp es) m in
        let rest = second_part (below_all cmp e.0 es) (is_sorted cmp es) m in
        elim (cmp k e.0) as
        (λ r. cmp k e.0 ≡ r → cond (is_eq r) (Some e.1) (find cmp k es) ≡ Some u
        → sum_by f (by_order r ((k, v) ∷ e ∷ es) ((e.0, v) ∷ es) (e ∷ put cmp k v es)) + f (k, u)
        ≡ sum_by f (e ∷ es) + f (k, v)) [
          | Less ↦ λ r at. absurd (let none = find-below cmp k es
              (below-trans cmp total k e.0 es r below) in cc)
          | Equal ↦ λ r at.
              let same : k ≡ e.0 = exact k e.0 r in
              let value : e.1 ≡ u = some_same e.1 u at in
              let own : f (k, u) ≡ f e = λ i. f (same i, sym value i) in
              let other : f (e.0, v) ≡ f (k, v) = ap (λ x. f (x, v)) (sym same) in
              let old = sum_by-cons f e es in
              let new = sum_by-cons f (e.0, v) es in
              omega (arith, own, other, old, new)
          | Greater ↦ λ r at.
              let so = sum_put_held k v u es rest at in
              let old = sum_by-cons f e es in
              let new = sum_by-cons f e (put cmp k v es) in
              omega (arith, so, old, new)
        ] refl held

-- ---- the sum of the counts

-- the counts with one label more, where there is one
abbrev with_label : Bool → List ℕ → LabelCounts → LabelCounts
with_label labelled lang counts =
    cond labelled (put text_cmp lang (count_of lang counts + 1) counts) counts

-- the counts of the cells, from the last one on
abbrev counts_in : Entries → LabelCounts
counts_in [] = []
counts_in (e ∷ es) = with_label (is_labelled e) e.0.1 (counts_in es)

count_cons : (lang : List ℕ) (e : Entry) (es : Entries)
    → label_count lang (e ∷ es) ≡ cond (is_label_of lang e) 1 0 + label_count lang es
count_cons lang e es = sum_by-cons (λ (x : Entry). cond (is_label_of lang x) 1 0) e es

are_counts : (cells : Entries) → AreLabelCounts cells (counts_in cells)
are_counts [] = record { ascend = tt; each = λ lang. refl }
are_counts (e ∷ es) =
    let rest = are_counts es in
    let counts = counts_in es in
    elim (is_labelled e) as
    (λ t. is_labelled e ≡ t → AreLabelCounts (e ∷ es) (with_label t e.0.1 counts)) [
      | true ↦ λ t. record {
        ascend = is_sorted-put text_cmp nat_list_cmp_total e.0.1 (count_of e.0.1 counts + 1) counts
            rest.ascend;
        each = λ lang.
            let one : cond {A = ℕ} (is_label_of lang e) 1 0
            ≡ cond (is_eq (text_cmp lang e.0.1)) 1 0 =
            ap (λ b. cond (b && is_eq (text_cmp lang e.0.1)) 1 0) t in
            let all = count_cons lang e es in
            counted_more counts (λ l. label_count l es) rest.each e.0.1 lang
            ∙ ap if_any (omega (arith, one, all));
      }
      | false ↦ λ t. record {
        ascend = rest.ascend;
        each = λ lang.
            let none : cond {A = ℕ} (is_label_of lang e) 1 0 ≡ 0 =
            ap (λ b. cond (b && is_eq (text_cmp lang e.0.1)) 1 0) t in
            let all = count_cons lang e es in
            rest.each lang ∙ ap if_any (omega (arith, none, all));
      }
    ] refl

abbrev count_term : List ℕ × ℕ → ℕ
count_term e = e.1

-- a count that is put is one more than what was there
put_sum : (lang : List ℕ) (counts : LabelCounts) → IsMap text_cmp counts
    → sum_by count_term (put text_cmp lang (count_of lang counts + 1) counts)
    ≡ sum_by count_term counts + 1
put_sum lang counts ascend =
    elim (find text_cmp lang counts) as (λ o. find text_cmp lang counts ≡ o
    → sum_by count_term (put text_cmp lang (count_of lang counts + 1) counts)
    ≡ sum_by count_term counts + 1) [
      | None ↦ λ h.
          let new = sum_put_new text_cmp count_term lang (count_of lang counts + 1) counts h in
          let is : count_of lang counts ≡ 0 = rw h refl in
          omega (arith, new, is)
      | Some n ↦ λ h.
          let held = sum_put_held text_cmp count_term nat_list_cmp_total text_exact lang
          (count_of lang counts + 1) n counts ascend h in
          let is : count_of lang counts ≡ n = rw h refl in
          omega (arith, held, is)
    ] refl

sum_in : (cells : Entries) → sum_by count_term (counts_in cells) ≡ count_by is_labelled cells
sum_in [] = refl
sum_in (e ∷ es) =
    let rest = sum_in es in
    let all = sum_by-cons (λ (x : Entry). cond (is_labelled x) 1 0) e es in
    let more = put_sum e.0.1 (counts_in es) (are_counts es).ascend in
    elim (is_labelled e) as
    (λ t. is_labelled e ≡ t
    → sum_by count_term (with_label t e.0.1 (counts_in es)) ≡ count_by is_labelled (e ∷ es)) [
      | true ↦ λ t.
          let one : cond {A = ℕ} (is_labelled e) 1 0 ≡ 1 = ap (λ b. cond {A = ℕ} b 1 0) t in
          omega (arith, rest, all, more, one)
      | false ↦ λ t.
          let none : cond {A = ℕ} (is_labelled e) 1 0 ≡ 0 = ap (λ b. cond {A = ℕ} b 1 0) t in
          omega (arith, rest, all, none)
    ] refl

-- The counts add up to the cells that have a label.
pub sum_of_counts : (cells : Entries) (counts : LabelCounts) → AreLabelCounts cells counts
    → sum_by (λ (e : List ℕ × ℕ). e.1) counts ≡ count_by is_labelled cells
sum_of_counts cells counts are =
    ap (sum_by count_term) (one_counts cells counts (counts_in cells) are (are_counts cells))
    ∙ sum_in cells

-- ---- parts

part_count : (messages : List ℕ → Bool) (lang : List ℕ) (cells : Entries)
    → label_count lang cells
    ≡ label_count lang (part_of messages cells)
    + label_count lang (part_of (λ id. not (messages id)) cells)
part_count messages lang [] = refl
part_count messages lang (e ∷ es) =
    let others : List ℕ → Bool = λ id. not (messages id) in
    let part = part_of messages es in
    let rest = part_of others es in
    let so = part_count messages lang es in
    let all = count_cons lang e es in
    let own = count_cons lang e part in
    let other = count_cons lang e rest in
    elim (messages e.0.0) as
    (λ t. label_count lang (e ∷ es)
    ≡ label_count lang (cond t (e ∷ part) part) + label_count lang (cond (not t) (e ∷ rest) rest)) [
      | true ↦ omega (arith, so, all, own)
      | false ↦ omega (arith, so, all, other)
    ]

-- The counts of some messages and those of the others add up.
pub counts_of_split : (messages : List ℕ → Bool) (cells : Entries) (whole part rest : LabelCounts)
    → AreLabelCounts cells whole → AreLabelCounts (part_of messages cells) part
    → AreLabelCounts (part_of (λ id. not (messages id)) cells) rest → (lang : List ℕ)
    → count_of lang whole ≡ count_of lang part + count_of lang rest
counts_of_split messages cells whole part rest all own others lang =
    let a = count_is cells whole all lang in
    let b = count_is (part_of messages cells) part own lang in
    let c = count_is (part_of (λ id. not (messages id)) cells) rest others lang in
    let so = part_count messages lang cells in
    omega (arith, a, b, c, so)

-- no key of both
abbrev NoneOfBoth : Entries → Entries → Type 0
NoneOfBoth a b = (key : EntryKey) → (find key_cmp key a ≡ None) ⊎ (find key_cmp key b ≡ None)

-- a key of the second is none of the first
not_in_first : (a : Entries) (e : Entry) (es : Entries) → NoneOfBoth a (e ∷ es)
    → find key_cmp e.0 a ≡ None
not_in_first a e es apart = elim (apart e.0) [
  | inl none ↦ none
  | inr none ↦ absurd (let own : find key_cmp e.0 (e ∷ es) ≡ Some e.1 =
      ap (λ t. cond t (Some e.1) (find key_cmp e.0 es)) (own_key e.0) in cc)
]

-- the rest of the second has no key of the first
none_of_rest : (a : Entries) (e : Entry) (es : Entries) → NoneOfBoth a (e ∷ es) → NoneOfBoth a es
none_of_rest a e es apart key = elim (apart key) [
  | inl none ↦ inl none
  | inr none ↦ elim (cases_Bool (eq_by_cmp key_cmp key e.0)) [
    | inl t ↦ inl (ap (λ k. find key_cmp k a) (same_key key e.0 t) ∙ not_in_first a e es apart)
    | inr t ↦ inr (rw t at none)
  ]
]

joined_count : (lang : List ℕ) (a b : Entries) → IsMap key_cmp b → NoneOfBoth a b
    → label_count lang (joined_entries key_cmp joined_cells a b)
    ≡ label_count lang a + label_count lang b
joined_count lang a [] = λ m apart. omega arith
joined_count lang a (e ∷ es) = λ m apart.
    let below = first_part (below_all key_cmp e.0 es) (is_sorted key_cmp es) m in
    let rest = second_part (below_all key_cmp e.0 es) (is_sorted key_cmp es) m in
    let new = not_in_first a e es apart in
    let so = joined_count lang a es rest (none_of_rest a e es apart) in
    let joins = joined_entries key_cmp joined_cells a es in
    let none : find key_cmp e.0 joins ≡ None =
    find-joined_entries key_cmp key_cmp_total joined_cells a es e.0
    ∙ ap (λ o. joined_if_both joined_cells o (find key_cmp e.0 es)) new
    ∙ find-below key_cmp e.0 es below in
    let cell : joined_at joined_cells (find key_cmp e.0 a) e.1 ≡ e.1 =
    ap (λ o. joined_at joined_cells o e.1) new in
    let put_is = ap (λ c. label_count lang (put key_cmp e.0 c joins)) cell in
    let more = sum_put_new key_cmp (λ (x : Entry). cond (is_label_of lang x) 1 0) e.0 e.1 joins
    none in
    let all = count_cons lang e es in
    omega (arith, so, put_is, more, all)

-- The counts of two catalogues without a common key add up to those of their join.
pub counts_of_join : (a b : Entries) (whole first second : LabelCounts)
    → IsMap key_cmp a → IsMap key_cmp b
    → ((key : EntryKey) → (find key_cmp key a ≡ None) ⊎ (find key_cmp key b ≡ None))
    → AreLabelCounts (joined a b) whole → AreLabelCounts a first → AreLabelCounts b second
    → (lang : List ℕ) → count_of lang whole ≡ count_of lang first + count_of lang second
counts_of_join a b whole first second m n apart all own other lang =
    let x = count_is (joined a b) whole all lang in
    let y = count_is a first own lang in
    let z = count_is b second other lang in
    let is = ap (label_count lang) (joined_of_maps key_cmp key_cmp_total joined_cells a b m n) in
    let so = joined_count lang a b n apart in
    omega (arith, x, y, z, is, so)

-- ---- a language that is listed

listed_if : (n : ℕ) → IsSome (if_any n) → 0 < n
listed_if zero h = absurd (true≢false (sym h))
listed_if (suc n) h = omega arith

if_listed : (n : ℕ) → 0 < n → IsSome (if_any n)
if_listed zero h = absurd (omega (arith, h))
if_listed (suc n) h = refl

-- the label of a cell that may be there
abbrev label_in : Option Cell → Option (List (List ℕ))
label_in None = None
label_in (Some c) = c.label

module _ (lang : List ℕ) where
  -- a label of the language is that of its message
  own_label : (e : Entry) (es : Entries) → is_label_of lang e ≡ true
      → IsSome (label_at (e.0.0, lang) (e ∷ es))
  own_label e es is =
      let labelled : is_labelled e ≡ true =
      first_so (is_labelled e) (is_eq (text_cmp lang e.0.1)) is in
      let same : lang ≡ e.0.1 =
      text_exact lang e.0.1 (tied (text_cmp lang e.0.1)
      (second_so (is_labelled e) (is_eq (text_cmp lang e.0.1)) is)) in
      let own : eq_by_cmp key_cmp (e.0.0, lang) e.0 ≡ true =
      ap (λ l. eq_by_cmp key_cmp (e.0.0, l) e.0) same ∙ own_key e.0 in
      ap (λ t. is_some (label_in (cond t (Some e.1) (find key_cmp (e.0.0, lang) es)))) own
      ∙ labelled

  -- what a message has is not at the key before
  later_label : (e : Entry) (es : Entries) (id : List ℕ) → IsMap key_cmp (e ∷ es)
      → IsSome (label_at (id, lang) es) → IsSome (label_at (id, lang) (e ∷ es))
  later_label e es id m has = elim (cases_Bool (eq_by_cmp key_cmp (id, lang) e.0)) [
    | inl t ↦ absurd
        (let below = first_part (below_all key_cmp e.0 es) (is_sorted key_cmp es) m in
        let none = find-below key_cmp (id, lang) es (below_tied key_cmp key_cmp_total (id, lang) e.0
        es (tied (key_cmp (id, lang) e.0) t) below) in
        true≢false (sym has ∙ ap (λ o. is_some (label_in o)) none))
    | inr t ↦
        ap (λ b. is_some (label_in (cond b (Some e.1) (find key_cmp (id, lang) es)))) t ∙ has
  ]

  has_label : (cells : Entries) → IsMap key_cmp cells → 0 < label_count lang cells
      → (id : List ℕ) × IsSome (label_at (id, lang) cells)
  has_label [] m some = absurd (omega (arith, some))
  has_label (e ∷ es) m some = elim (cases_Bool (is_label_of lang e)) [
    | inl t ↦ (e.0.0, own_label e es t)
    | inr t ↦
        let none : cond {A = ℕ} (is_label_of lang e) 1 0 ≡ 0 = ap (λ b. cond {A = ℕ} b 1 0) t in
        let all = count_cons lang e es in
        let rest = has_label es (second_part (below_all key_cmp e.0 es) (is_sorted key_cmp es) m)
        (omega (arith, some, none, all)) in
        (rest.0, later_label e es rest.0 m rest.1)
  ]

  counts_label : (cells : Entries) (id : List ℕ) → IsSome (label_at (id, lang) cells)
      → 0 < label_count lang cells
  counts_label [] id has = absurd (true≢false (sym has))
  counts_label (e ∷ es) id has = elim (cases_Bool (eq_by_cmp key_cmp (id, lang) e.0)) [
    | inl t ↦
        let same : (id, lang) ≡ e.0 = same_key (id, lang) e.0 t in
        let labelled : is_labelled e ≡ true =
        ap (λ b. is_some (label_in (cond b (Some e.1) (find key_cmp (id, lang) es)))) (sym t) ∙ has
        in
        let tie : is_eq (text_cmp lang e.0.1) ≡ true =
        ap (λ (k : EntryKey). is_eq (text_cmp lang k.1)) (sym same)
        ∙ ap is_eq (tied_itself nat_list_cmp_total lang) in
        let one : cond {A = ℕ} (is_label_of lang e) 1 0 ≡ 1 = rw (labelled, tie) refl in
        let all = count_cons lang e es in
        omega (arith, one, all)
    | inr t ↦
        let rest = counts_label es id
        (ap (λ b. is_some (label_in (cond b (Some e.1) (find key_cmp (id, lang) es)))) (sym t)
        ∙ has) in
        let all = count_cons lang e es in
        omega (arith, rest, all)
  ]

-- A language is listed exactly if some message has a live label of it.
pub listed_with_label : (cells : Entries) (counts : LabelCounts) (lang : List ℕ)
    → IsMap key_cmp cells → AreLabelCounts cells counts → IsSome (find text_cmp lang counts)
    ↔ ((id : List ℕ) × IsSome (label_at (id, lang) cells))
listed_with_label cells counts lang m are = (
  λ listed. has_label lang cells m
      (listed_if (label_count lang cells) (ap is_some (sym (are.each lang)) ∙ listed)),
  λ has. ap is_some (are.each lang)
      ∙ if_listed (label_count lang cells) (counts_label lang cells has.0 has.1),
)

-- ---- the messages of a language

-- the labels with that of one more language, where it has one
abbrev live_with : List ℕ → Option (List (List ℕ)) → Labelled → Labelled
live_with lang label labels = cons_option (option_map (λ l. (lang, l)) label) labels

module _ (id : List ℕ) (e : Entry) (es : Entries) where
  abbrev others : Entries
  others = filter (λ (x : Entry). is_eq (text_cmp id x.0.0)) es

  live_same : is_eq (text_cmp id e.0.0) ≡ true
      → live (e ∷ es) id ≡ live_with e.0.1 e.1.label (live es id)
  live_same t =
      ap (λ b. live_of (map (λ (x : Entry). (x.0.1, x.1)) (cond b (e ∷ others) others))) t

  live_other : is_eq (text_cmp id e.0.0) ≡ false → live (e ∷ es) id ≡ live es id
  live_other t =
      ap (λ b. live_of (map (λ (x : Entry). (x.0.1, x.1)) (cond b (e ∷ others) others))) t

  live_without : e.1.label ≡ None → live (e ∷ es) id ≡ live es id
  live_without none = elim (cases_Bool (is_eq (text_cmp id e.0.0))) [
    | inl t ↦ live_same t ∙ ap (λ o. live_with e.0.1 o (live es id)) none
    | inr t ↦ live_other t
  ]

-- a language less than another one is none of it
not_tied : (r s : Ordering) → ordering_then r s ≡ Less → r ≡ Equal → is_eq s ≡ false
not_tied r s less tie = ap is_eq (ap (λ o. ordering_then o s) (sym tie) ∙ less)

find_later : (lang other : List ℕ) (label : Option (List (List ℕ))) (labels : Labelled)
    → is_eq (text_cmp lang other) ≡ false
    → find text_cmp lang (live_with other label labels) ≡ find text_cmp lang labels
find_later lang other None labels t = refl
find_later lang other (Some l) labels t =
    ap (λ b. cond b (Some l) (find text_cmp lang labels)) t

-- below all entries a message has no label of a language
none_live : (id lang : List ℕ) (es : Entries) → T (below_all key_cmp (id, lang) es)
    → find text_cmp lang (live es id) ≡ None
none_live id lang [] h = refl
none_live id lang (e ∷ es) h =
    let less = less_than (key_cmp (id, lang) e.0)
    (first_part (is_lt (key_cmp (id, lang) e.0)) (below_all key_cmp (id, lang) es) h) in
    let rest = none_live id lang es
    (second_part (is_lt (key_cmp (id, lang) e.0)) (below_all key_cmp (id, lang) es) h) in
    elim (cases_Bool (is_eq (text_cmp id e.0.0))) [
      | inl t ↦ ap (find text_cmp lang) (live_same id e es t)
          ∙ find_later lang e.0.1 e.1.label (live es id)
          (not_tied (text_cmp id e.0.0) (text_cmp lang e.0.1) less (tied (text_cmp id e.0.0) t))
          ∙ rest
      | inr t ↦ ap (find text_cmp lang) (live_other id e es t) ∙ rest
    ]

-- the messages with one label more, where there is one
abbrev with_message : Entry → Option (List (List ℕ)) → Entries → List LiveMessage → List LiveMessage
with_message e None es messages = messages
with_message e (Some label) es messages =
    put text_cmp e.0.0 ((e.0.1, label) ∷ live es e.0.0) messages

-- the messages of the cells, from the last one on
abbrev messages_in : Entries → List LiveMessage
messages_in [] = []
messages_in (e ∷ es) = with_message e e.1.label es (messages_in es)

are_messages_in : (cells : Entries) → AreMessages cells (messages_in cells)
are_messages_in [] = record { ascend = tt; each = λ id. refl }
are_messages_in (e ∷ es) =
    let rest = are_messages_in es in
    elim e.1.label as
    (λ o. e.1.label ≡ o → AreMessages (e ∷ es) (with_message e o es (messages_in es))) [
      | None ↦ λ l. record {
        ascend = rest.ascend;
        each = λ id. rest.each id ∙ ap labels_if_any (sym (live_without id e es l));
      }
      | Some label ↦ λ l.
          let labels : Labelled = (e.0.1, label) ∷ live es e.0.0 in
          record {
            ascend = is_sorted-put text_cmp nat_list_cmp_total e.0.0 labels (messages_in es)
                rest.ascend;
            each = λ id. find-put text_cmp nat_list_cmp_total id e.0.0 labels (messages_in es)
                ∙ elim (is_eq (text_cmp id e.0.0)) as
                (λ t. is_eq (text_cmp id e.0.0) ≡ t
                → cond t (Some labels) (find text_cmp id (messages_in es))
                ≡ labels_if_any (live (e ∷ es) id)) [
                  | true ↦ λ t.
                      let same : e.0.0 ≡ id =
                      sym (text_exact id e.0.0 (tied (text_cmp id e.0.0) t)) in
                      ap (λ k. Some ((e.0.1, label) ∷ live es k)) same
                      ∙ ap labels_if_any (ap (λ o. live_with e.0.1 o (live es id)) (sym l)
                      ∙ sym (live_same id e es t))
                  | false ↦ λ t. rest.each id ∙ ap labels_if_any (sym (live_other id e es t))
                ] refl;
          }
    ] refl

module _ (lang : List ℕ) where
  abbrev live_term : LiveMessage → ℕ
  live_term m = cond (is_live m.1 lang) 1 0

  -- one label more of a message counts for its language, which the message did not have
  live_more : (id other : List ℕ) (label : List (List ℕ)) (labels : Labelled)
      → (is_eq (text_cmp lang other) ≡ true → find text_cmp lang labels ≡ None)
      → live_term (id, (other, label) ∷ labels)
      ≡ live_term (id, labels) + cond (is_eq (text_cmp lang other)) 1 0
  live_more id other label labels new =
      elim (is_eq (text_cmp lang other)) as
      (λ t. is_eq (text_cmp lang other) ≡ t
      → cond (is_some (cond t (Some label) (find text_cmp lang labels))) 1 0
      ≡ cond (is_some (find text_cmp lang labels)) 1 0 + cond t 1 0) [
        | true ↦ λ t. rw (new t) refl
        | false ↦ λ t. omega arith
      ] refl

  put_live : (id other : List ℕ) (label : List (List ℕ)) (labels : Labelled)
      (messages : List LiveMessage) → IsMap text_cmp messages
      → find text_cmp id messages ≡ labels_if_any labels
      → (is_eq (text_cmp lang other) ≡ true → find text_cmp lang labels ≡ None)
      → sum_by live_term (put text_cmp id ((other, label) ∷ labels) messages)
      ≡ sum_by live_term messages + cond (is_eq (text_cmp lang other)) 1 0
  put_live id other label [] messages ascend found new =
      let put_is = sum_put_new text_cmp live_term id ((other, label) ∷ []) messages found in
      let more = live_more id other label [] new in
      omega (arith, put_is, more)
  put_live id other label (x ∷ xs) messages ascend found new =
      let put_is = sum_put_held text_cmp live_term nat_list_cmp_total text_exact id
      ((other, label) ∷ x ∷ xs) (x ∷ xs) messages ascend found in
      let more = live_more id other label (x ∷ xs) new in
      omega (arith, put_is, more)

  messages_count : (cells : Entries) → IsMap key_cmp cells
      → label_count lang cells ≡ sum_by live_term (messages_in cells)
  messages_count [] m = refl
  messages_count (e ∷ es) m =
      let below = first_part (below_all key_cmp e.0 es) (is_sorted key_cmp es) m in
      let rest = messages_count es (second_part (below_all key_cmp e.0 es) (is_sorted key_cmp es) m)
      in
      let all = count_cons lang e es in
      let are = are_messages_in es in
      elim e.1.label as
      (λ o. e.1.label ≡ o
      → label_count lang (e ∷ es) ≡ sum_by live_term (with_message e o es (messages_in es))) [
        | None ↦ λ l.
            let none : cond {A = ℕ} (is_label_of lang e) 1 0 ≡ 0 =
            ap (λ o. cond (is_some o && is_eq (text_cmp lang e.0.1)) 1 0) l in
            omega (arith, rest, all, none)
        | Some label ↦ λ l.
            let one : cond {A = ℕ} (is_label_of lang e) 1 0
            ≡ cond (is_eq (text_cmp lang e.0.1)) 1 0 =
            ap (λ o. cond (is_some o && is_eq (text_cmp lang e.0.1)) 1 0) l in
            let new : is_eq (text_cmp lang e.0.1) ≡ true
            → find text_cmp lang (live es e.0.0) ≡ None =
            λ t. ap (λ x. find text_cmp x (live es e.0.0))
            (text_exact lang e.0.1 (tied (text_cmp lang e.0.1) t))
            ∙ none_live e.0.0 e.0.1 es below in
            let more = put_live e.0.0 e.0.1 label (live es e.0.0) (messages_in es) are.ascend
            (are.each e.0.0) new in
            omega (arith, rest, all, one, more)
      ] refl

-- The count of a language is the number of messages that have a live label of it.
pub count_of_messages : (cells : Entries) (counts : LabelCounts) (messages : List LiveMessage)
    (lang : List ℕ) → IsMap key_cmp cells → AreLabelCounts cells counts → AreMessages cells messages
    → count_of lang counts ≡ count_by (λ (m : LiveMessage). is_live m.1 lang) messages
count_of_messages cells counts messages lang m are all =
    count_is cells counts are lang ∙ messages_count lang cells m
    ∙ ap (sum_by (live_term lang))
    (one_list_of_messages cells (messages_in cells) messages (are_messages_in cells) all)
