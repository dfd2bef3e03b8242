-- Changes from old labels to new ones, key by key.
--
-- Two ascending lists are walked at once, and the lesser of their first keys is the next: it is
-- removed, added, or compared if both have it. `IsFront` is the invariant: some changes are made,
-- and those of the keys left come after them, with greater keys and later stamps. A step passes the
-- least key, with a change or with none; where the clock is spent in the rest, it is in the whole.
use Rattle.std.proofs.Common.{◌≡◌, ◌≢◌, ◌∙◌, ℕ, Bool, true, false, cond, List, [], ◌∷◌, ◌++◌, refl}
use Rattle.std.proofs.Common.{◌≤◌, ◌<◌, sym, ap, append-nil, append_assoc, arith, length, subst}
use Rattle.std.proofs.Common.{inl, inr}
use Rattle.std.specs.Borrow.{Bor}
use Rattle.std.specs.Prelude.{◌&&◌, None, Option, Some, T, is_some, option_map}
use Rattle.std.specs.Prelude.{slice_index_or}
use Rattle.std.specs.Bool.{Decides}
use Rattle.std.specs.Option.{option_eq}
use Rattle.std.specs.Ordering.{eq_by_cmp, is_lt, ordering_reverse}
use Rattle.std.specs.declared.cmp.Ordering.TheVariants.{Equal, Greater, Less}
use Rattle.std.specs.Cmp.Lexicographic.{pointwise}
use Rattle.std.specs.FinMap.Entries.{below_all, find, find-put, is_sorted, is_sorted-put, put}
use Rattle.std.proofs.Common.{nat_eq}
use Rattle.cell_core.specs.Keyed.{IsMap}
use Rattle.cell_core.specs.Stamp.{NoNext}
use Rattle.cell_core.specs.declared.cell.Cell.{Cell}
use Rattle.cell_core.specs.declared.stamp.Stamp.{Stamp}
use Rattle.cell_core.proofs.CellLemmas.{label_decides}
use Rattle.cell_core.specs.Entry.{EntryKey, key_cmp}
use Rattle.cell_core.specs.inner.Entry.{key_cmp_exact, key_cmp_total}
use Rattle.catalogue.specs.Entries.{Entries}
use Rattle.catalogue.specs.CatalogueLatest.{latest_of}
use Rattle.cell_core.proofs.KeyedPlacesLemmas.{find-below, below-trans}
use Rattle.map_docs.specs.Maps.{Labelled}
use Rattle.query_docs.specs.Exporting.{label_at}
use Rattle.query_docs.proofs.ExportingLemmas.{label_in}
use Rattle.docs_core.specs.UpdatingChanges.{Change, Makes, SpendsClock, with_change}
use Rattle.docs_core.specs.inner.Revised.{IsFirstRevised, IsHead, IsRevised, NoStamp, key_of}
use Rattle.docs_core.specs.inner.Revised.{new_of, old_of}
use Rattle.docs_core.specs.Updating.{AreChanges, IsChangeAt, SpendsUpdate, Texts, Updates}
use Rattle.docs_core.specs.declared.call.revised.Revised.{Revised}
use Rattle.catalogue.proofs.CatalogueBestLemmas.{same_key as one_key, own_key as itself}
use Rattle.cell_core.proofs.Basics.{both_parts, first_part, less_than, second_part}
use Rattle.docs_core.proofs.UpdatingChangesLemmas.{Makes-append, Spends-append}

-- labels that are borrowed are the same where the comparison says so
pub borrowed_decides : (x y : Option (Bor (List (List ℕ))))
    → Decides (option_eq (λ a b. pointwise (pointwise nat_eq) a.now b.now) x y)
    (option_map (λ l. l.now) x ≡ option_map (λ l. l.now) y)
borrowed_decides None None = label_decides None None
borrowed_decides None (Some y) = label_decides None (Some y.now)
borrowed_decides (Some x) None = label_decides (Some x.now) None
borrowed_decides (Some x) (Some y) = label_decides (Some x.now) (Some y.now)

-- ---- the heads of lists

-- the first key of labels has its texts, and the others follow it
pub head_there : (k : EntryKey) (texts : List (List ℕ)) (rest : List Labelled)
    → IsMap key_cmp ((k, texts) ∷ rest) → IsHead k (Some texts) ((k, texts) ∷ rest) rest
head_there k texts rest m = record {
  ascends = second_part (below_all key_cmp k rest) (is_sorted key_cmp rest) m;
  above = first_part (below_all key_cmp k rest) (is_sorted key_cmp rest) m;
  at = λ q. refl;
}

-- a key below all labels has none
pub head_absent : (k : EntryKey) (list : List Labelled) → IsMap key_cmp list
    → T (below_all key_cmp k list) → IsHead k None list list
head_absent k list m above = record {
  ascends = m;
  above = above;
  at =
      λ q. elim (eq_by_cmp key_cmp q k) as (λ t. eq_by_cmp key_cmp q k ≡ t
      → find key_cmp q list ≡ cond t None (find key_cmp q list)) [
        | true ↦ λ t. ap (λ x. find key_cmp x list) (one_key q k t)
            ∙ find-below key_cmp k list above
        | false ↦ λ t. refl
      ] refl;
}

-- ---- the first of two lists

module _ (r : Revised) (was is : EntryKey) (olds news : List Labelled) where
  -- where the old list's first key is the lesser, it is removed
  pub first_removed : (texts more : List (List ℕ)) → key_of r ≡ was → old_of r ≡ Some texts
      → new_of r ≡ None → key_cmp was is ≡ Less → IsMap key_cmp ((was, texts) ∷ olds)
      → IsMap key_cmp ((is, more) ∷ news)
      → IsFirstRevised r ((was, texts) ∷ olds) ((is, more) ∷ news) olds ((is, more) ∷ news)
  first_removed texts more key old new less m n =
      let above =
      both_parts (is_lt (key_cmp was is)) (below_all key_cmp was news)
      (subst (λ o. T (is_lt o)) (sym less) tt)
      (below-trans key_cmp key_cmp_total was is news less
      (first_part (below_all key_cmp is news) (is_sorted key_cmp news) n)) in record {
        old_head = rw (key, old) (head_there was texts olds m);
        new_head = rw (key, new) (head_absent was ((is, more) ∷ news) n above);
      }

  -- where the new list's first key is the lesser, it is added
  pub first_added : (texts more : List (List ℕ)) → key_of r ≡ is → old_of r ≡ None
      → new_of r ≡ Some more → key_cmp was is ≡ Greater → IsMap key_cmp ((was, texts) ∷ olds)
      → IsMap key_cmp ((is, more) ∷ news)
      → IsFirstRevised r ((was, texts) ∷ olds) ((is, more) ∷ news) ((was, texts) ∷ olds) news
  first_added texts more key old new greater m n =
      let less : key_cmp is was ≡ Less =
      key_cmp_total.antisymm is was ∙ ap ordering_reverse greater in
      let above =
      both_parts (is_lt (key_cmp is was)) (below_all key_cmp is olds)
      (subst (λ o. T (is_lt o)) (sym less) tt)
      (below-trans key_cmp key_cmp_total is was olds less
      (first_part (below_all key_cmp was olds) (is_sorted key_cmp olds) m)) in record {
        old_head = rw (key, old) (head_absent is ((was, texts) ∷ olds) m above);
        new_head = rw (key, new) (head_there is more news n);
      }

  -- where both first keys are equal, both lists have it
  pub first_kept : (texts more : List (List ℕ)) → key_of r ≡ was → old_of r ≡ Some texts
      → new_of r ≡ Some more → key_cmp was is ≡ Equal → IsMap key_cmp ((was, texts) ∷ olds)
      → IsMap key_cmp ((is, more) ∷ news)
      → IsFirstRevised r ((was, texts) ∷ olds) ((is, more) ∷ news) olds news
  first_kept texts more key old new equal m n =
      let same : is ≡ was = sym (key_cmp_exact was is equal) in record {
        old_head = rw (key, old) (head_there was texts olds m);
        new_head =
            rw (key, new) (subst (λ (k : EntryKey). IsHead k (Some more) ((is, more) ∷ news) news)
            same (head_there is more news n));
      }

-- ---- options

-- a list of one is that one
pub one_of : {X : Type 0} (xs : List X) (x : X) → 1 ≤ length xs → length xs < 2
    → x ≡ slice_index_or xs 0 x → xs ≡ x ∷ []
one_of [] x some few is = absurd (omega (arith, some))
one_of (y ∷ []) x some few is = ap (λ t. t ∷ []) (sym is)
one_of (y ∷ z ∷ zs) x some few is = absurd (omega (arith, few))

-- some are not none
pub Some≢None : {A : Type 0} (x : A) → Some x ≢ None
Some≢None x e = cc

-- between no label and no label nothing is done
pub nothing_done : (held : Texts) (change : Option Texts) → IsChangeAt None None held change
    → change ≡ None
nothing_done held change h = elim h [ inl same ↦ same.1 | inr other ↦ absurd (other.0 refl) ]

-- where it is changed it is another than before
pub changed_differ : {old new held to : Texts} → IsChangeAt old new held (Some to) → old ≢ new
changed_differ {to = to} h = elim h [
  | inl nothing ↦ absurd (Some≢None to nothing.1)
  | inr change ↦ change.0
]

-- what is done is one
pub one_change : (old new held : Texts) (x y : Option Texts) → IsChangeAt old new held x
    → IsChangeAt old new held y → x ≡ y
one_change old new held x y p q = elim p [
  | inl a ↦ elim q [
    | inl b ↦ a.1 ∙ sym b.1
    | inr b ↦ absurd (elim a.0 [ inl same ↦ b.0 same | inr has ↦ b.1 has ])
  ]
  | inr a ↦ elim q [
    | inl b ↦ absurd (elim b.0 [ inl same ↦ a.0 same | inr has ↦ a.1 has ])
    | inr b ↦ a.2 ∙ sym b.2
  ]
]

-- ---- keys after a key

-- what is found among entries after a key is after it
pub above_found : {J : Type 0} (k q : EntryKey) (xs : List (EntryKey × J))
    → T (below_all key_cmp k xs)
    → find key_cmp q xs ≢ None → key_cmp k q ≡ Less
above_found k q [] h found = absurd (found refl)
above_found k q (x ∷ xs) h found =
    elim (eq_by_cmp key_cmp q x.0) as (λ t. eq_by_cmp key_cmp q x.0 ≡ t
    → cond t (Some x.1) (find key_cmp q xs) ≢ None → key_cmp k q ≡ Less) [
      | true ↦ λ t _. ap (key_cmp k) (one_key q x.0 t)
          ∙ less_than (key_cmp k x.0)
          (first_part (is_lt (key_cmp k x.0)) (below_all key_cmp k xs) h)
      | false ↦ λ t more. above_found k q xs
          (second_part (is_lt (key_cmp k x.0)) (below_all key_cmp k xs) h) more
    ] refl found

found_after : {J : Type 0} (q : EntryKey) (x : EntryKey × J) (xs : List (EntryKey × J))
    → find key_cmp q xs ≢ None → find key_cmp q (x ∷ xs) ≢ None
found_after q x xs found =
    elim (eq_by_cmp key_cmp q x.0) as (λ t. cond t (Some x.1) (find key_cmp q xs) ≢ None) [
      | true ↦ Some≢None x.1
      | false ↦ found
    ]

first_found : {J : Type 0} (x : EntryKey × J) (xs : List (EntryKey × J))
    → find key_cmp x.0 (x ∷ xs) ≡ Some x.1
first_found x xs = ap (λ t. cond t (Some x.1) (find key_cmp x.0 xs)) (itself x.0)

below_found : {J : Type 0} (k : EntryKey) (xs : List (EntryKey × J))
    → ((q : EntryKey) → find key_cmp q xs ≢ None → key_cmp k q ≡ Less) → T (below_all key_cmp k xs)
below_found k [] h = tt
below_found k (x ∷ xs) h =
    both_parts (is_lt (key_cmp k x.0)) (below_all key_cmp k xs)
    (subst (λ r. T (is_lt r)) (sym (h x.0 (λ none. Some≢None x.1 (sym (first_found x xs) ∙ none))))
    tt)
    (below_found k xs (λ q found. h q (found_after q x xs found)))

-- ---- a step at the least key

abbrev At : List Labelled → List Labelled → Entries → List Change → EntryKey → Type 0
At old new cells changes q =
    IsChangeAt (find key_cmp q old) (find key_cmp q new) (label_at q cells) (find key_cmp q changes)

module _ (k : EntryKey) (was is : Texts) (old new old_rest new_rest : List Labelled)
    (cells : Entries) (a : IsHead k was old old_rest) (b : IsHead k is new new_rest) where
  -- the changes of what is left are after the key
  changes_above : (mid : Entries) (changes : List Change) → AreChanges old_rest new_rest mid changes
      → T (below_all key_cmp k changes)
  changes_above mid changes h =
      below_found k changes
      (λ q found. from q found (find key_cmp q old_rest) (find key_cmp q new_rest) refl refl)
    where
      from : (q : EntryKey) → find key_cmp q changes ≢ None → (x y : Texts)
          → find key_cmp q old_rest ≡ x → find key_cmp q new_rest ≡ y → key_cmp k q ≡ Less
      from q found None None p r =
          absurd
          (found (nothing_done (label_at q mid) (find key_cmp q changes)
          (subst (λ o. IsChangeAt o None (label_at q mid) (find key_cmp q changes)) p
          (subst (λ n. IsChangeAt (find key_cmp q old_rest) n (label_at q mid)
          (find key_cmp q changes)) r (h.at q)))))
      from q found None (Some y) p r =
          above_found k q new_rest b.above (λ none. Some≢None y (sym r ∙ none))
      from q found (Some x) y p r =
          above_found k q old_rest a.above (λ none. Some≢None x (sym p ∙ none))

  -- at the key
  at_key : (q : EntryKey) (changes : List Change) (change : Option Texts)
      → eq_by_cmp key_cmp q k ≡ true → IsChangeAt was is (label_at k cells) change
      → find key_cmp q changes ≡ change → At old new cells changes q
  at_key q changes change t done found =
      subst (λ x. IsChangeAt x (find key_cmp q new) (label_at q cells) (find key_cmp q changes))
      (sym (a.at q ∙ ap (λ u. cond u was (find key_cmp q old_rest)) t))
      (subst (λ x. IsChangeAt was x (label_at q cells) (find key_cmp q changes))
      (sym (b.at q ∙ ap (λ u. cond u is (find key_cmp q new_rest)) t))
      (subst (λ x. IsChangeAt was is x (find key_cmp q changes))
      (ap (λ x. label_at x cells) (sym (one_key q k t)))
      (subst (IsChangeAt was is (label_at k cells)) (sym found) done)))

  -- at another key
  at_other : (q : EntryKey) (mid : Entries) (changes more : List Change)
      → eq_by_cmp key_cmp q k ≡ false → label_at q mid ≡ label_at q cells
      → find key_cmp q more ≡ find key_cmp q changes
      → At old_rest new_rest mid changes q → At old new cells more q
  at_other q mid changes more t label found done =
      subst (λ x. IsChangeAt x (find key_cmp q new) (label_at q cells) (find key_cmp q more))
      (sym (a.at q ∙ ap (λ u. cond u was (find key_cmp q old_rest)) t))
      (subst (λ x. IsChangeAt (find key_cmp q old_rest) x (label_at q cells) (find key_cmp q more))
      (sym (b.at q ∙ ap (λ u. cond u is (find key_cmp q new_rest)) t))
      (subst (λ x. IsChangeAt (find key_cmp q old_rest) (find key_cmp q new_rest) x
      (find key_cmp q more)) label
      (subst (IsChangeAt (find key_cmp q old_rest) (find key_cmp q new_rest) (label_at q mid))
      (sym found) done)))

  -- nothing is done at the key
  pub skipped : IsChangeAt was is (label_at k cells) None → (changes : List Change)
      → AreChanges old_rest new_rest cells changes → AreChanges old new cells changes
  skipped done changes h = record {
    ascending = h.ascending;
    at =
        λ q. elim (eq_by_cmp key_cmp q k) as (λ t. eq_by_cmp key_cmp q k ≡ t
        → At old new cells changes q) [
          | true ↦ λ t. at_key q changes None t done
              (ap (λ x. find key_cmp x changes) (one_key q k t)
              ∙ find-below key_cmp k changes (changes_above cells changes h))
          | false ↦ λ t. at_other q cells changes changes t refl refl (h.at q)
        ] refl;
  }

  -- the change of the key is made
  pub changed : IsChangeAt was is (label_at k cells) (Some is)
      → (stamp : Stamp) (changes : List Change)
      → AreChanges old_rest new_rest (with_change (k, is) stamp cells) changes
      → AreChanges old new cells ((k, is) ∷ changes)
  changed done stamp changes h =
      let mid = with_change (k, is) stamp cells in
      let cell : Cell = record { stamp = stamp; label = is } in record {
        ascending =
            both_parts (below_all key_cmp k changes) (is_sorted key_cmp changes)
            (changes_above mid changes h) h.ascending;
        at =
            λ q. elim (eq_by_cmp key_cmp q k) as (λ t. eq_by_cmp key_cmp q k ≡ t
            → At old new cells ((k, is) ∷ changes) q) [
              | true ↦ λ t. at_key q ((k, is) ∷ changes) (Some is) t done
                  (ap (λ u. cond u (Some is) (find key_cmp q changes)) t)
              | false ↦ λ t. at_other q mid changes ((k, is) ∷ changes) t
                  (ap label_in (find-put key_cmp key_cmp_total q k cell cells
                  ∙ ap (λ u. cond u (Some cell) (find key_cmp q cells)) t))
                  (ap (λ u. cond u (Some is) (find key_cmp q changes)) t) (h.at q)
            ] refl;
      }

  -- the change of the key comes first
  pub changed_first : IsChangeAt was is (label_at k cells) (Some is) → (changes : List Change)
      → AreChanges old_rest new_rest cells changes → AreChanges old new cells ((k, is) ∷ changes)
  changed_first done changes h = record {
    ascending =
        both_parts (below_all key_cmp k changes) (is_sorted key_cmp changes)
        (changes_above cells changes h) h.ascending;
    at =
        λ q. elim (eq_by_cmp key_cmp q k) as (λ t. eq_by_cmp key_cmp q k ≡ t
        → At old new cells ((k, is) ∷ changes) q) [
          | true ↦ λ t. at_key q ((k, is) ∷ changes) (Some is) t done
              (ap (λ u. cond u (Some is) (find key_cmp q changes)) t)
          | false ↦ λ t. at_other q cells changes ((k, is) ∷ changes) t refl
              (ap (λ u. cond u (Some is) (find key_cmp q changes)) t) (h.at q)
        ] refl;
  }

-- ---- there are changes

abbrev same_texts : Texts → Texts → Bool
same_texts = option_eq (pointwise (pointwise nat_eq))

abbrev change_of : Texts → Texts → Texts → Option Texts
change_of old new held = cond (same_texts old new) None (cond (same_texts held new) None (Some new))

false≢true : false ≢ true
false≢true e = cc

change_is : (old new held : Texts) → IsChangeAt old new held (change_of old new held)
change_is old new held =
    let decides = label_decides old new in
    let has = label_decides held new in
    elim (same_texts old new) as (λ t. same_texts old new ≡ t
    → IsChangeAt old new held (cond t None (cond (same_texts held new) None (Some new)))) [
      | true ↦ λ t. inl (inl (decides.0 t), refl)
      | false ↦ λ t. elim (same_texts held new) as (λ u. same_texts held new ≡ u
          → IsChangeAt old new held (cond u None (Some new))) [
            | true ↦ λ u. inl (inr (has.0 u), refl)
            | false ↦ λ u.
                inr (
                  λ same. false≢true (sym t ∙ decides.1 same),
                  λ same. false≢true (sym u ∙ has.1 same),
                  refl,
                )
          ] refl
    ] refl

abbrev put_if : EntryKey → Option Texts → List Change → List Change
put_if k None changes = changes
put_if k (Some label) changes = put key_cmp k label changes

-- the changes of the keys of a list, by what is done at each
abbrev changes_at : (EntryKey → Option Texts) → List Labelled → List Change
changes_at done [] = []
changes_at done (x ∷ xs) = put_if x.0 (done x.0) (changes_at done xs)

put_if-IsMap : (k : EntryKey) (change : Option Texts) (changes : List Change)
    → IsMap key_cmp changes → IsMap key_cmp (put_if k change changes)
put_if-IsMap k None changes m = m
put_if-IsMap k (Some label) changes m = is_sorted-put key_cmp key_cmp_total k label changes m

changes_at-IsMap : (done : EntryKey → Option Texts) (xs : List Labelled)
    → IsMap key_cmp (changes_at done xs)
changes_at-IsMap done [] = tt
changes_at-IsMap done (x ∷ xs) =
    put_if-IsMap x.0 (done x.0) (changes_at done xs) (changes_at-IsMap done xs)

-- what is found after a change that may be put
find-put_if : (q k : EntryKey) (change : Option Texts) (changes : List Change)
    → find key_cmp q (put_if k change changes)
    ≡ cond (eq_by_cmp key_cmp q k && is_some change) change (find key_cmp q changes)
find-put_if q k None changes =
    elim (eq_by_cmp key_cmp q k) as (λ t. find key_cmp q changes
    ≡ cond (t && false) None (find key_cmp q changes)) [ true ↦ refl | false ↦ refl ]
find-put_if q k (Some label) changes =
    find-put key_cmp key_cmp_total q k label changes
    ∙ elim (eq_by_cmp key_cmp q k) as (λ t. cond t (Some label) (find key_cmp q changes)
    ≡ cond (t && true) (Some label) (find key_cmp q changes)) [ true ↦ refl | false ↦ refl ]

-- a change that is the same as what was found
once_more : (some : Bool) (change : Option Texts)
    → cond (is_some change) change (cond some change None) ≡ change
once_more true None = refl
once_more false None = refl
once_more some (Some label) = refl

find-changes_at : (done : EntryKey → Option Texts) (q : EntryKey) (xs : List Labelled)
    → find key_cmp q (changes_at done xs) ≡ cond (is_some (find key_cmp q xs)) (done q) None
find-changes_at done q [] = refl
find-changes_at done q (x ∷ xs) =
    let rest = find-changes_at done q xs in
    find-put_if q x.0 (done x.0) (changes_at done xs)
    ∙ elim (eq_by_cmp key_cmp q x.0) as (λ t. eq_by_cmp key_cmp q x.0 ≡ t
    → cond (t && is_some (done x.0)) (done x.0) (find key_cmp q (changes_at done xs))
    ≡ cond (is_some (cond t (Some x.1) (find key_cmp q xs))) (done q) None) [
      | true ↦ λ t.
          let same : done x.0 ≡ done q = ap done (sym (one_key q x.0 t)) in
          ap (λ o. cond (is_some o) o (find key_cmp q (changes_at done xs))) same
          ∙ ap (cond (is_some (done q)) (done q)) rest
          ∙ once_more (is_some (find key_cmp q xs)) (done q)
      | false ↦ λ t. rest
    ] refl

none_of_both : (q : EntryKey) (xs ys : List Labelled) → find key_cmp q (xs ++ ys) ≡ None
    → (find key_cmp q xs ≡ None) × (find key_cmp q ys ≡ None)
none_of_both q [] ys none = (refl, none)
none_of_both q (x ∷ xs) ys none =
    elim (eq_by_cmp key_cmp q x.0) as (λ t. cond t (Some x.1) (find key_cmp q (xs ++ ys)) ≡ None
    → (cond t (Some x.1) (find key_cmp q xs) ≡ None) × (find key_cmp q ys ≡ None)) [
      | true ↦ λ some. absurd (Some≢None x.1 some)
      | false ↦ λ rest. none_of_both q xs ys rest
    ] none

-- there is a list of changes
pub there_are_changes : (old new : List Labelled) (cells : Entries)
    → (changes : List Change) × AreChanges old new cells changes
there_are_changes old new cells = (
  changes_at done both,
  record { ascending = changes_at-IsMap done both; at = λ q. at q (find key_cmp q both) refl },
)
  where
    both : List Labelled
    both = old ++ new

    done : EntryKey → Option Texts
    done q = change_of (find key_cmp q old) (find key_cmp q new) (label_at q cells)

    at : (q : EntryKey) (o : Texts) → find key_cmp q both ≡ o
        → At old new cells (changes_at done both) q
    at q (Some x) e =
        subst (IsChangeAt (find key_cmp q old) (find key_cmp q new) (label_at q cells))
        (sym (find-changes_at done q both ∙ ap (λ o. cond (is_some o) (done q) None) e))
        (change_is (find key_cmp q old) (find key_cmp q new) (label_at q cells))
    at q None e =
        let none = none_of_both q old new e in
        inl (
          inl (none.0 ∙ sym none.1),
          find-changes_at done q both ∙ ap (λ o. cond (is_some o) (done q) None) e,
        )

-- ---- one key more

-- some changes are made, and those of the keys that are left come after them
pub record IsFront (now : ℕ) (name : List ℕ) (old new : List Labelled) (first : Entries)
    (olds news : List Labelled) (cells : Entries) : Type 0 where
  pub done : List Change
  pub makes : Makes now name done first cells
  pub rest : (changes : List Change) → AreChanges olds news cells changes
      → AreChanges old new first (done ++ changes)

module _ (now : ℕ) (name : List ℕ) (old new : List Labelled) (first : Entries)
    (olds news : List Labelled) (cells : Entries)
    (so : IsFront now name old new first olds news cells) where
  -- with the least key done, the rest is left
  pub front_next : (r : Revised) (old_rest new_rest : List Labelled) (mid : Entries)
      → IsFirstRevised r olds news old_rest new_rest → IsRevised now name r cells mid
      → IsFront now name old new first old_rest new_rest mid
  front_next r old_rest new_rest mid least done = elim done [
    | inl nothing ↦ record {
      done = so.done;
      makes = subst (λ (es : Entries). Makes now name so.done first es) (sym nothing.1) so.makes;
      rest = λ changes are. so.rest changes (skipped (key_of r) (old_of r) (new_of r) olds news
          old_rest new_rest cells least.old_head least.new_head nothing.0 changes
          (subst (λ (es : Entries). AreChanges old_rest new_rest es changes) nothing.1 are));
    }
    | inr made ↦ record {
      done = so.done ++ (key_of r, new_of r) ∷ [];
      makes = Makes-append now name so.done ((key_of r, new_of r) ∷ []) first cells mid so.makes
          (made.1, made.2, made.3);
      rest = λ changes are. subst (AreChanges old new first)
          (sym (append_assoc so.done ((key_of r, new_of r) ∷ []) changes))
          (so.rest ((key_of r, new_of r) ∷ changes) (changed (key_of r) (old_of r) (new_of r) olds
          news old_rest new_rest cells least.old_head least.new_head made.0 made.1 changes
          (subst (λ (es : Entries). AreChanges old_rest new_rest es changes) made.3 are)));
    }
  ]

  -- where no key is left all is done
  pub front_done : olds ≡ [] → news ≡ [] → Updates now name old new first cells
  front_done no_olds no_news = (
    so.done,
    subst (AreChanges old new first) (append-nil so.done)
        (so.rest [] (subst (λ (os : List Labelled). AreChanges os news cells []) (sym no_olds)
        (subst (λ (ns : List Labelled). AreChanges [] ns cells []) (sym no_news)
        (record { ascending = tt; at = λ key. inl (inl refl, refl) })))),
    so.makes,
  )

  -- where the clock is spent in the rest, it is in all
  pub front_spends : SpendsUpdate now name olds news cells → SpendsUpdate now name old new first
  front_spends (changes, are, spends) = (
    so.done ++ changes,
    so.rest changes are,
    Spends-append now name so.done changes first cells so.makes spends,
  )

  -- some changes are made, and there are those of the rest
  pub front_left : (left : Entries) → left ≡ cells → (some more : List Change)
      × AreChanges old new first (some ++ more) × Makes now name some first left
  front_left left same =
      let there = there_are_changes olds news cells in (
        so.done,
        there.0,
        so.rest there.0 there.1,
        subst (λ (es : Entries). Makes now name so.done first es) (sym same) so.makes,
      )

-- a list in which something is found is not empty, so that its first change would be made
spends_first : (now : ℕ) (name : List ℕ) (q : EntryKey) (changes : List Change) (cells : Entries)
    → find key_cmp q changes ≢ None → NoNext (latest_of cells) now name
    → SpendsClock now name changes cells
spends_first now name q [] cells found none = absurd (found refl)
spends_first now name q (e ∷ es) cells found none = inl none

-- among the changes there is that of the least key
pub change_there : (r : Revised) (old new old_rest new_rest : List Labelled)
    → IsFirstRevised r old new old_rest new_rest → (cells : Entries)
    → IsChangeAt (old_of r) (new_of r) (label_at (key_of r) cells) (Some (new_of r))
    → (changes : List Change) → AreChanges old new cells changes
    → find key_cmp (key_of r) changes ≡ Some (new_of r)
change_there r old new old_rest new_rest first cells done changes are =
    let k = key_of r in
    let at_old : find key_cmp k old ≡ old_of r =
    first.old_head.at k ∙ ap (λ u. cond u (old_of r) (find key_cmp k old_rest)) (itself k) in
    let at_new : find key_cmp k new ≡ new_of r =
    first.new_head.at k ∙ ap (λ u. cond u (new_of r) (find key_cmp k new_rest)) (itself k) in
    let here =
    subst (λ x. IsChangeAt (old_of r) x (label_at k cells) (find key_cmp k changes)) at_new
    (subst (λ x. IsChangeAt x (find key_cmp k new) (label_at k cells)
    (find key_cmp k changes)) at_old (are.at k)) in
    one_change (old_of r) (new_of r) (label_at k cells) (find key_cmp k changes)
    (Some (new_of r)) here done

-- there is no stamp for the change of the key
pub SpendsUpdate-here : (now : ℕ) (name : List ℕ) (r : Revised)
    (old new old_rest new_rest : List Labelled) → IsFirstRevised r old new old_rest new_rest
    → (cells : Entries) → NoStamp now name r cells
    → SpendsUpdate now name old new cells
SpendsUpdate-here now name r old new old_rest new_rest first cells (done, none) =
    let there = there_are_changes old new cells in
    let found = change_there r old new old_rest new_rest first cells done there.0 there.1 in (
      there.0,
      there.1,
      spends_first now name (key_of r) there.0 cells
          (λ nothing. Some≢None (new_of r) (sym found ∙ nothing)) none,
    )
