-- What changed between two catalogues.
--
-- Both are walked side by side in ascending order of key, which gives at each key of either what
-- both have there; those that are equal are left out. What is below the first key of a map is below
-- all of it, so the walk finds at a key what the maps have. From that follow the laws: there is one
-- list, it is empty just if the catalogues are equal, the changes made to the first give the
-- second, and parts and exchange commute with it.
use Rattle.std.proofs.Common.{◌≡◌, ◌∙◌, ℕ, List, [], ◌∷◌, Option, Some, None, Bool, true, false}
use Rattle.std.proofs.Common.{◌⊎◌, inl, inr, cond, refl, sym, ap, subst, nat_eq, true≢false}
use Rattle.std.specs.Prelude.{◌↔◌, ◌≢◌, T, map, not}
use Rattle.std.specs.Bool.{Decides}
use Rattle.std.specs.Cmp.Lexicographic.{pointwise}
use Rattle.std.specs.Option.{option_eq, option_map}
use Rattle.std.specs.Ordering.{is_lt, eq_by_cmp, ordering_reverse}
use Rattle.std.specs.declared.cmp.Ordering.TheVariants.{Less, Equal, Greater}
use Rattle.std.specs.FinMap.Entries.{find, below_all, is_sorted}
use Rattle.std.proofs.lemmas.Bool.{cases_Bool}
use Rattle.std.proofs.lemmas.Bool.Decides.{Decides-and, Decides-like}
use Rattle.cell_core.specs.declared.cell.Cell.{Cell}
use Rattle.cell_core.specs.Keyed.{IsMap}
use Rattle.cell_core.specs.inner.KeyedLaws.{same_maps}
use Rattle.cell_core.specs.StampEq.{stamp_eq}
use Rattle.cell_core.proofs.CellLemmas.{stamp_decides, label_decides}
use Rattle.catalogue.specs.Changes.{Sides, Changed, is_same, change_of, AreChanges, AreMade}
use Rattle.catalogue.specs.Changes.{made_at, exchanged}
use Rattle.catalogue.specs.ChangesLeft.{only_after, only_before, by_order, beside_from}
use Rattle.catalogue.specs.ChangesLeft.{side_by_side, differing}
use Rattle.cell_core.specs.Entry.{EntryKey, key_cmp}
use Rattle.cell_core.specs.inner.Entry.{key_cmp_total, key_cmp_exact}
use Rattle.catalogue.specs.Entries.{Entry, Entries}
use Rattle.catalogue.specs.Equality.{cell_eq}
use Rattle.catalogue.specs.CatalogueParts.{part_of}
use Rattle.cell_core.proofs.Basics.{both_parts, first_part, second_part, tied_order as tied}
use Rattle.lang_core.proofs.Basics.{is_false as false_if}
use Rattle.catalogue.proofs.Basics.{some_same}
use Rattle.cell_core.proofs.KeyedPlacesLemmas.{find-below, below_tied, below-trans}
use Rattle.catalogue.proofs.EntriesFilteredLemmas.{filter-IsMap}
use Rattle.catalogue.proofs.EntriesFilteredLemmas.{find-filter}
use Rattle.catalogue.proofs.EntriesFilteredLemmas.{kept_if}
use Rattle.catalogue.proofs.ChangesMappedLemmas.{find-mapped, mapped-IsMap}
use Rattle.catalogue.proofs.CataloguePartsLemmas.{find-part}

-- ---- equal cells

-- Two cells are the same just where the comparison says so.
pub cell_decides : (c d : Cell) → Decides (cell_eq c d) (c ≡ d)
cell_decides c d =
    Decides-like (cell_eq c d) (λ parts i. record { stamp = parts.0 i; label = parts.1 i })
    (λ same. (ap (λ x. x.stamp) same, ap (λ x. x.label) same))
    (Decides-and (stamp_eq c.stamp d.stamp)
    (option_eq (pointwise (pointwise nat_eq)) c.label d.label) (stamp_decides c.stamp d.stamp)
    (label_decides c.label d.label))

same_decides : (a b : Option Cell) → Decides (is_same a b) (a ≡ b)
same_decides None None = (λ _. refl, λ _. refl)
same_decides None (Some d) = (λ t. cc, λ same. cc)
same_decides (Some c) None = (λ t. cc, λ same. cc)
same_decides (Some c) (Some d) = (
  λ t. ap Some ((cell_decides c d).0 t),
  λ same. (cell_decides c d).1 (some_same c d same),
)

none_some : {X : Type 0} {x : X} → None ≡ Some x → ⊥
none_some e = cc

-- ---- what changed at a key

no_change : (a b : Option Cell) → a ≡ b → change_of a b ≡ None
no_change a b e = ap (λ t. cond t None (Some (a, b))) ((same_decides a b).1 e)

a_change : (a b : Option Cell) → (a ≡ b → ⊥) → change_of a b ≡ Some (a, b)
a_change a b n =
    ap (λ t. cond t None (Some (a, b))) (false_if (is_same a b) (λ t. n ((same_decides a b).0 t)))

change_cases : (a b : Option Cell)
    → ((a ≡ b) × (change_of a b ≡ None)) ⊎ ((a ≡ b → ⊥) × (change_of a b ≡ Some (a, b)))
change_cases a b = elim (cases_Bool (is_same a b)) [
  | inl t ↦ inl ((same_decides a b).0 t, no_change a b ((same_decides a b).0 t))
  | inr f ↦
      let n : a ≡ b → ⊥ = (λ e. true≢false (sym ((same_decides a b).1 e) ∙ f)) in
      inr (n, a_change a b n)
]

-- ---- both side by side

-- both, where either is there
abbrev pair_of : Option Cell → Option Cell → Option Sides
pair_of None None = None
pair_of None (Some d) = Some (None, Some d)
pair_of (Some c) None = Some (Some c, None)
pair_of (Some c) (Some d) = Some (Some c, Some d)

pair_after : (o : Option Cell)
    → option_map (λ (c : Cell). (None, Some c)) o ≡ pair_of None o
pair_after None = refl
pair_after (Some c) = refl

find_after : (k : EntryKey) (es : Entries)
    → find key_cmp k (map only_after es) ≡ pair_of None (find key_cmp k es)
find_after k es =
    find-mapped key_cmp (λ (c : Cell). (None, Some c)) k es ∙ pair_after (find key_cmp k es)

-- ---- what is below a list of entries, and lists that ascend

module _ {J : Type 0} where
  head_low : (x : EntryKey) (e : EntryKey × J) (es : List (EntryKey × J))
      → T (below_all key_cmp x (e ∷ es)) → T (is_lt (key_cmp x e.0))
  head_low x e es h = first_part (is_lt (key_cmp x e.0)) (below_all key_cmp x es) h

  tail_low : (x : EntryKey) (e : EntryKey × J) (es : List (EntryKey × J))
      → T (below_all key_cmp x (e ∷ es)) → T (below_all key_cmp x es)
  tail_low x e es h = second_part (is_lt (key_cmp x e.0)) (below_all key_cmp x es) h

  low : (x : EntryKey) (e : EntryKey × J) (es : List (EntryKey × J)) → T (is_lt (key_cmp x e.0))
      → T (below_all key_cmp x es) → T (below_all key_cmp x (e ∷ es))
  low x e es h k = both_parts (is_lt (key_cmp x e.0)) (below_all key_cmp x es) h k

  head_of : (e : EntryKey × J) (es : List (EntryKey × J)) → IsMap key_cmp (e ∷ es)
      → T (below_all key_cmp e.0 es)
  head_of e es m = first_part (below_all key_cmp e.0 es) (is_sorted key_cmp es) m

  tail_of : (e : EntryKey × J) (es : List (EntryKey × J)) → IsMap key_cmp (e ∷ es)
      → IsMap key_cmp es
  tail_of e es m = second_part (below_all key_cmp e.0 es) (is_sorted key_cmp es) m

  ascends : (e : EntryKey × J) (es : List (EntryKey × J)) → T (below_all key_cmp e.0 es)
      → IsMap key_cmp es → IsMap key_cmp (e ∷ es)
  ascends e es h k = both_parts (below_all key_cmp e.0 es) (is_sorted key_cmp es) h k

-- what is below the first of a map is below all of it
below_first : (x : EntryKey) (e : Entry) (es : Entries) → key_cmp x e.0 ≡ Less
    → IsMap key_cmp (e ∷ es) → T (below_all key_cmp x (e ∷ es))
below_first x e es r m =
    low x e es (subst (λ o. T (is_lt o)) (sym r) tt)
    (below-trans key_cmp key_cmp_total x e.0 es r (head_of e es m))

-- nothing is found at a key that ties with one that is below the first
none_below : (k x : EntryKey) (e : Entry) (es : Entries) → eq_by_cmp key_cmp k x ≡ true
    → key_cmp x e.0 ≡ Less → IsMap key_cmp (e ∷ es) → find key_cmp k (e ∷ es) ≡ None
none_below k x e es t r m =
    let under = below_first x e es r m in
    find-below key_cmp k (e ∷ es)
    (below_tied key_cmp key_cmp_total k x (e ∷ es) (tied (key_cmp k x) t) under)

turned : (x y : EntryKey) → key_cmp x y ≡ Greater → key_cmp y x ≡ Less
turned x y r = key_cmp_total.antisymm y x ∙ ap ordering_reverse r

-- ---- what both have at a key

-- the list has at the key what both have there
abbrev HasBoth : EntryKey → Entries → Entries → Changed → Type 0
HasBoth k before after sides =
    find key_cmp k sides ≡ pair_of (find key_cmp k before) (find key_cmp k after)

module _ (k : EntryKey) (e : Entry) (es : Entries) (rest : Entries → Changed)
    (m : IsMap key_cmp (e ∷ es))
    (of_rest : (ys : Entries) → IsMap key_cmp ys → HasBoth k es ys (rest ys)) where
  find_beside : (after : Entries) → IsMap key_cmp after
      → HasBoth k (e ∷ es) after (beside_from e rest after)
  find_beside [] n = elim (eq_by_cmp key_cmp k e.0) as (λ t.
      cond t (Some (Some e.1, None)) (find key_cmp k (rest []))
      ≡ pair_of (cond t (Some e.1) (find key_cmp k es)) None) [
        | true ↦ refl
        | false ↦ of_rest [] tt
      ]
  find_beside (a ∷ others) n = elim (key_cmp e.0 a.0) as (λ r. key_cmp e.0 a.0 ≡ r
      → HasBoth k (e ∷ es) (a ∷ others) (by_order r (only_before e ∷ rest (a ∷ others))
      ((e.0, (Some e.1, Some a.1)) ∷ rest others) (only_after a ∷ beside_from e rest others))) [
        | Less ↦ λ r. elim (eq_by_cmp key_cmp k e.0) as (λ t. eq_by_cmp key_cmp k e.0 ≡ t
            → cond t (Some (Some e.1, None)) (find key_cmp k (rest (a ∷ others)))
            ≡ pair_of (cond t (Some e.1) (find key_cmp k es)) (find key_cmp k (a ∷ others))) [
              | true ↦ λ t. ap (pair_of (Some e.1)) (sym (none_below k e.0 a others t r n))
              | false ↦ λ t. of_rest (a ∷ others) n
            ] refl
        | Equal ↦ λ r.
            let there = find key_cmp k others in
            let same : e.0 ≡ a.0 = key_cmp_exact e.0 a.0 r in
            let asked : eq_by_cmp key_cmp k a.0 ≡ eq_by_cmp key_cmp k e.0 =
            ap (eq_by_cmp key_cmp k) (sym same) in
            elim (eq_by_cmp key_cmp k e.0) as (λ t. eq_by_cmp key_cmp k a.0 ≡ t
            → cond t (Some (Some e.1, Some a.1)) (find key_cmp k (rest others))
            ≡ pair_of (cond t (Some e.1) (find key_cmp k es)) (find key_cmp k (a ∷ others))) [
              | true ↦ λ t. ap (λ u. pair_of (Some e.1) (cond u (Some a.1) there)) (sym t)
              | false ↦ λ t. of_rest others (tail_of a others n)
                  ∙ ap (λ u. pair_of (find key_cmp k es) (cond u (Some a.1) there)) (sym t)
            ] asked
        | Greater ↦ λ r. elim (eq_by_cmp key_cmp k a.0) as (λ t. eq_by_cmp key_cmp k a.0 ≡ t
            → cond t (Some (None, Some a.1)) (find key_cmp k (beside_from e rest others))
            ≡ pair_of (find key_cmp k (e ∷ es)) (cond t (Some a.1) (find key_cmp k others))) [
              | true ↦ λ t. let none = none_below k a.0 e es t (turned e.0 a.0 r) m in
                  ap (λ o. pair_of o (Some a.1)) (sym none)
              | false ↦ λ t. find_beside others (tail_of a others n)
            ] refl
      ] refl

-- what both have at a key, side by side
find_sides : (k : EntryKey) (before after : Entries) → IsMap key_cmp before
    → IsMap key_cmp after → HasBoth k before after (side_by_side before after)
find_sides k [] after m n = find_after k after
find_sides k (e ∷ es) after m n =
    find_beside k e es (side_by_side es) m (λ ys o. find_sides k es ys (tail_of e es m) o) after n

-- ---- their keys ascend

below_after : (x : EntryKey) (es : Entries) → T (below_all key_cmp x es)
    → T (below_all key_cmp x (map only_after es))
below_after x [] h = tt
below_after x (e ∷ es) h =
    low x (only_after e) (map only_after es) (head_low x e es h)
    (below_after x es (tail_low x e es h))

below_beside : (x : EntryKey) (e : Entry) (rest : Entries → Changed) → T (is_lt (key_cmp x e.0))
    → ((ys : Entries) → T (below_all key_cmp x ys) → T (below_all key_cmp x (rest ys)))
    → (after : Entries) → T (below_all key_cmp x after)
    → T (below_all key_cmp x (beside_from e rest after))
below_beside x e rest under of_rest [] h = low x (only_before e) (rest []) under (of_rest [] tt)
below_beside x e rest under of_rest (a ∷ others) h =
    let both : EntryKey × Sides = (e.0, (Some e.1, Some a.1)) in
    let behind = beside_from e rest others in
    let later = tail_low x a others h in
    elim (key_cmp e.0 a.0) as (λ r. T (below_all key_cmp x (by_order r
    (only_before e ∷ rest (a ∷ others)) (both ∷ rest others) (only_after a ∷ behind)))) [
      | Less ↦ low x (only_before e) (rest (a ∷ others)) under (of_rest (a ∷ others) h)
      | Equal ↦ low x both (rest others) under (of_rest others later)
      | Greater ↦ low x (only_after a) behind (head_low x a others h)
          (below_beside x e rest under of_rest others later)
    ]

below_sides : (x : EntryKey) (before after : Entries) → T (below_all key_cmp x before)
    → T (below_all key_cmp x after) → T (below_all key_cmp x (side_by_side before after))
below_sides x [] after h k = below_after x after k
below_sides x (e ∷ es) after h k =
    below_beside x e (side_by_side es) (head_low x e es h)
    (λ ys o. below_sides x es ys (tail_low x e es h) o) after k

beside_ascends : (e : Entry) (es : Entries) → IsMap key_cmp (e ∷ es)
    → ((ys : Entries) → IsMap key_cmp ys → IsMap key_cmp (side_by_side es ys))
    → (after : Entries) → IsMap key_cmp after
    → IsMap key_cmp (beside_from e (side_by_side es) after)
beside_ascends e es m of_rest [] n =
    ascends (only_before e) (side_by_side es []) (below_sides e.0 es [] (head_of e es m) tt)
    (of_rest [] tt)
beside_ascends e es m of_rest (a ∷ others) n =
    let both : EntryKey × Sides = (e.0, (Some e.1, Some a.1)) in
    let some = side_by_side es (a ∷ others) in
    let less = side_by_side es others in
    let behind = beside_from e (side_by_side es) others in
    let under = head_of e es m in
    let later = tail_of a others n in
    elim (key_cmp e.0 a.0) as (λ r. key_cmp e.0 a.0 ≡ r → IsMap key_cmp (by_order r
    (only_before e ∷ some) (both ∷ less) (only_after a ∷ behind))) [
      | Less ↦ λ r. ascends (only_before e) some
          (below_sides e.0 es (a ∷ others) under (below_first e.0 a others r n))
          (of_rest (a ∷ others) n)
      | Equal ↦ λ r. ascends both less
          (below_sides e.0 es others under
          (below_tied key_cmp key_cmp_total e.0 a.0 others r (head_of a others n)))
          (of_rest others later)
      | Greater ↦ λ r.
          let first = below_first a.0 e es (turned e.0 a.0 r) m in
          ascends (only_after a) behind (below_sides a.0 (e ∷ es) others first (head_of a others n))
          (beside_ascends e es m of_rest others later)
    ] refl

sides_ascend : (before after : Entries) → IsMap key_cmp before → IsMap key_cmp after
    → IsMap key_cmp (side_by_side before after)
sides_ascend [] after m n = mapped-IsMap key_cmp (λ (c : Cell). (None, Some c)) after n
sides_ascend (e ∷ es) after m n =
    beside_ascends e es m (λ ys o. sides_ascend es ys (tail_of e es m) o) after n

-- ---- those that differ

kept_change : (a b : Option Cell)
    → kept_if (λ (v : Sides). not (is_same v.0 v.1)) (Some (a, b)) ≡ change_of a b
kept_change a b = elim (is_same a b) as (λ t.
    cond {A = Option Sides} (not t) (Some (a, b)) None
    ≡ cond {A = Option Sides} t None (Some (a, b))) [
      | true ↦ refl
      | false ↦ refl
    ]

kept_pair : (a b : Option Cell)
    → kept_if (λ (v : Sides). not (is_same v.0 v.1)) (pair_of a b) ≡ change_of a b
kept_pair None None = refl
kept_pair None (Some d) = kept_change None (Some d)
kept_pair (Some c) None = kept_change (Some c) None
kept_pair (Some c) (Some d) = kept_change (Some c) (Some d)

-- what the walk gives is what changed
pub are_changes : (before after : Entries) → IsMap key_cmp before → IsMap key_cmp after
    → AreChanges before after (differing (side_by_side before after))
are_changes before after m n =
    let sides = side_by_side before after in
    let ascend = sides_ascend before after m n in
    let p = λ (e : EntryKey × Sides). not (is_same e.1.0 e.1.1) in
    record {
      ascend = filter-IsMap key_cmp p sides ascend;
      each = λ key.
          find-filter key_cmp p key_cmp_total key_cmp_exact key sides ascend
          ∙ (ap (kept_if (λ (v : Sides). not (is_same v.0 v.1))) (find_sides key before after m n)
          ∙ kept_pair (find key_cmp key before) (find key_cmp key after));
    }

-- there is one list of changes
pub one_changes : (before after : Entries) (a b : Changed) → AreChanges before after a
    → AreChanges before after b → a ≡ b
one_changes before after a b f g =
    same_maps key_cmp key_cmp_total key_cmp_exact a b f.ascend g.ascend
    (λ k. f.each k ∙ sym (g.each k))

module _ (before after : Entries) (changes : Changed) (are : AreChanges before after changes) where
  -- what it has at a key is what both have there, and they differ
  pub differ_at : (key : EntryKey) (mine other : Option Cell)
      → (find key_cmp key changes ≡ Some (mine, other))
      ↔ ((find key_cmp key before ≡ mine) × (find key_cmp key after ≡ other) × (mine ≢ other))
  differ_at key mine other =
      let a = find key_cmp key before in
      let b = find key_cmp key after in (
        λ f. elim (change_cases a b) [
          | inl same ↦ absurd (none_some (sym same.1 ∙ (sym (are.each key) ∙ f)))
          | inr other_case ↦
              let e : (a, b) ≡ (mine, other) =
              some_same (a, b) (mine, other) (sym other_case.1 ∙ (sym (are.each key) ∙ f)) in
              let p : a ≡ mine = ap (λ (x : Sides). x.0) e in
              let q : b ≡ other = ap (λ (x : Sides). x.1) e in
              (p, q, λ s. other_case.0 (p ∙ (s ∙ sym q)))
        ],
        λ h. are.each key ∙ (a_change a b (λ s. h.2 (sym h.0 ∙ (s ∙ h.1)))
            ∙ (λ i. Some (h.0 i, h.1 i))),
      )

  -- what both have alike is in none
  pub alike_at : (key : EntryKey)
      → (find key_cmp key changes ≡ None) ↔ (find key_cmp key before ≡ find key_cmp key after)
  alike_at key =
      let a = find key_cmp key before in
      let b = find key_cmp key after in (
        λ f. elim (change_cases a b) [
          | inl same ↦ same.0
          | inr other ↦ absurd (none_some (sym (sym (are.each key) ∙ f) ∙ other.1))
        ],
        λ e. are.each key ∙ no_change a b e,
      )

  -- it is empty just where the catalogues are equal
  pub empty_if_equal : IsMap key_cmp before → IsMap key_cmp after
      → (changes ≡ []) ↔ (before ≡ after)
  empty_if_equal m n = (
    λ e. same_maps key_cmp key_cmp_total key_cmp_exact before after m n
        (λ key. (alike_at key).0 (ap (find key_cmp key) e)),
    λ e. same_maps key_cmp key_cmp_total key_cmp_exact changes [] are.ascend tt
        (λ key. (alike_at key).1 (ap (find key_cmp key) e)),
  )

  -- the catalogue after is the one before with the changes made
  pub made_is_after : IsMap key_cmp after → (made : Entries)
      → AreMade before changes made ↔ (made ≡ after)
  made_is_after n made = (
    λ h. same_maps key_cmp key_cmp_total key_cmp_exact made after h.ascend n
        (λ key. h.each key ∙ made_there key),
    λ e. subst (AreMade before changes) (sym e)
        (record { ascend = n; each = λ key. sym (made_there key) }),
  ) where
    made_there : (key : EntryKey)
        → made_at (find key_cmp key changes) (find key_cmp key before) ≡ find key_cmp key after
    made_there key =
        let a = find key_cmp key before in
        let b = find key_cmp key after in
        elim (change_cases a b) [
          | inl same ↦ ap (λ x. made_at x a) (are.each key ∙ same.1) ∙ same.0
          | inr other ↦ ap (λ x. made_at x a) (are.each key ∙ other.1)
        ]

-- ---- parts

change_kept : (t : Bool) (a b : Option Cell)
    → cond t (change_of a b) None ≡ change_of (cond t a None) (cond t b None)
change_kept true a b = refl
change_kept false a b = refl

-- the changes of a part are the part of the changes
pub part_changes : (messages : List ℕ → Bool) (before after : Entries) (changes : Changed)
    → AreChanges before after changes
    → AreChanges (part_of messages before) (part_of messages after) (part_of messages changes)
part_changes messages before after changes are = record {
  ascend = filter-IsMap key_cmp (λ (e : EntryKey × Sides). messages e.0.0) changes are.ascend;
  each = λ key.
      let a = find key_cmp key before in
      let b = find key_cmp key after in
      find-part messages key changes
      ∙ (ap (λ (o : Option Sides). cond (messages key.0) o None) (are.each key)
      ∙ (change_kept (messages key.0) a b
      ∙ (λ i. change_of (sym (find-part messages key before) i)
      (sym (find-part messages key after) i))));
}

-- ---- exchanged

abbrev turned_sides : Sides → Sides
turned_sides v = (v.1, v.0)

turned_change : (a b : Option Cell) → option_map turned_sides (change_of a b) ≡ change_of b a
turned_change a b = elim (change_cases a b) [
  | inl same ↦ ap (option_map turned_sides) same.1 ∙ sym (no_change b a (sym same.0))
  | inr other ↦ ap (option_map turned_sides) other.1 ∙ sym (a_change b a (λ e. other.0 (sym e)))
]

-- exchanging the catalogues exchanges before and after
pub exchanged_changes : (before after : Entries) (changes : Changed)
    → AreChanges before after changes → AreChanges after before (exchanged changes)
exchanged_changes before after changes are = record {
  ascend = mapped-IsMap key_cmp turned_sides changes are.ascend;
  each = λ key.
      find-mapped key_cmp turned_sides key changes
      ∙ (ap (option_map turned_sides) (are.each key)
      ∙ turned_change (find key_cmp key before) (find key_cmp key after));
}
