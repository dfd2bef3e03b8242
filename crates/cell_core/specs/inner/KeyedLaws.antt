-- Maps keep the laws of joins, where their values do.
use Rattle.std.specs.Prelude.{◌≡◌, Bool, true, false, cond, ◌&&◌, T, List, [], ◌∷◌, Option}
use Rattle.std.specs.Prelude.{Some, None, refl}
use Rattle.std.proofs.Common.{sym, ap, ◌∙◌, subst, inl, inr, true≢false}
use Rattle.std.specs.declared.cmp.Ordering.{Ordering}
use Rattle.std.specs.declared.cmp.Ordering.TheVariants.{Less, Equal, Greater}
use Rattle.std.specs.Ordering.{is_eq, eq_by_cmp}
use Rattle.std.specs.Cmp.{IsTotalOrder}
use Rattle.std.specs.FinMap.Entries.{find, is_sorted, is_sorted-put, find-put, find_tied}
use Rattle.std.specs.FinMap.Entries.{same_entries}
use Rattle.cell_core.specs.inner.JoinBasis.{join_laws}
use Rattle.cell_core.specs.Join.{JoinLaws, IsBelow}
use Rattle.cell_core.specs.Keyed.{AgreeIfBoth, AgreeMaps, BetweenIfBoth, BetweenMaps, IsMap}
use Rattle.cell_core.specs.Keyed.{joined_at, joined_entries, joined_if_both, joined_maps}

-- ---- values that may be absent

module _ {J : Type 0} {agree : J → J → Type 0} {joined : J → J → J} {between : J → J → J → Type 0}
    (laws : JoinLaws agree joined between) where
  agree_refl : (a : Option J) → AgreeIfBoth agree a a
  agree_refl None = tt
  agree_refl (Some x) = laws.agree_refl x

  agree_symm : (a b : Option J) → AgreeIfBoth agree a b → AgreeIfBoth agree b a
  agree_symm None None h = tt
  agree_symm None (Some y) h = tt
  agree_symm (Some x) None h = tt
  agree_symm (Some x) (Some y) h = laws.agree_symm x y h

  agree_joined : (a b c : Option J) → AgreeIfBoth agree a b → AgreeIfBoth agree a c
      → AgreeIfBoth agree b c → AgreeIfBoth agree a (joined_if_both joined b c)
  agree_joined None b c h k l = tt
  agree_joined (Some x) None c h k l = k
  agree_joined (Some x) (Some y) None h k l = h
  agree_joined (Some x) (Some y) (Some z) h k l = laws.agree_joined x y z h k l

  idem : (a : Option J) → joined_if_both joined a a ≡ a
  idem None = refl
  idem (Some x) = ap Some (laws.idem x)

  comm : (a b : Option J) → AgreeIfBoth agree a b
      → joined_if_both joined a b ≡ joined_if_both joined b a
  comm None None h = refl
  comm None (Some y) h = refl
  comm (Some x) None h = refl
  comm (Some x) (Some y) h = ap Some (laws.comm x y h)

  assoc : (a b c : Option J) → AgreeIfBoth agree a b → AgreeIfBoth agree a c → AgreeIfBoth agree b c
      → joined_if_both joined (joined_if_both joined a b) c
      ≡ joined_if_both joined a (joined_if_both joined b c)
  assoc None b c h k l = refl
  assoc (Some x) None c h k l = refl
  assoc (Some x) (Some y) None h k l = refl
  assoc (Some x) (Some y) (Some z) h k l = ap Some (laws.assoc x y z h k l)

  between_first : (a b : Option J) → AgreeIfBoth agree a b → BetweenIfBoth between a a b
  between_first None b h = tt
  between_first (Some x) None h = refl
  between_first (Some x) (Some y) h = laws.between_first x y h

  between_last : (a b : Option J) → AgreeIfBoth agree a b
      → BetweenIfBoth between a (joined_if_both joined a b) b
  between_last None None h = tt
  between_last None (Some y) h = refl
  between_last (Some x) None h = refl
  between_last (Some x) (Some y) h = laws.between_last x y h

  between_above : (a x b : Option J) → AgreeIfBoth agree a b → BetweenIfBoth between a x b
      → IsBelow (AgreeIfBoth agree) (joined_if_both joined) a x
  between_above None x b h k = (tt, refl)
  between_above (Some a) None b h k = absurd k
  between_above (Some a) (Some x) None h k =
      subst (λ y. IsBelow (AgreeIfBoth agree) (joined_if_both joined) (Some a) (Some y)) (sym k)
      (laws.agree_refl a, ap Some (laws.idem a))
  between_above (Some a) (Some x) (Some b) h k = let below = laws.between_above a x b h k in
      (below.0, ap Some below.1)

  between_agrees : (a x b : Option J) → AgreeIfBoth agree a b → BetweenIfBoth between a x b
      → AgreeIfBoth agree x b
  between_agrees None None b h k = tt
  between_agrees None (Some x) b h k =
      subst (AgreeIfBoth agree (Some x)) (sym k) (laws.agree_refl x)
  between_agrees (Some a) None b h k = absurd k
  between_agrees (Some a) (Some x) None h k = tt
  between_agrees (Some a) (Some x) (Some b) h k = laws.between_agrees a x b h k

  between_joins : (a x b : Option J) → AgreeIfBoth agree a b → BetweenIfBoth between a x b
      → joined_if_both joined x b ≡ joined_if_both joined a b
  between_joins None None b h k = refl
  between_joins None (Some x) b h k =
      ap (joined_if_both joined (Some x)) k ∙ ap Some (laws.idem x) ∙ sym k
  between_joins (Some a) None b h k = absurd k
  between_joins (Some a) (Some x) None h k = ap Some k
  between_joins (Some a) (Some x) (Some b) h k = ap Some (laws.between_joins a x b h k)

  -- values that may be absent keep the laws
  pub if_both_laws : JoinLaws (AgreeIfBoth agree) (joined_if_both joined) (BetweenIfBoth between)
  if_both_laws = join_laws (record {
    agree_refl = agree_refl;
    agree_symm = agree_symm;
    agree_joined = agree_joined;
    idem = idem;
    comm = comm;
    assoc = assoc;
    between_first = between_first;
    between_last = between_last;
    between_above = between_above;
    between_agrees = between_agrees;
    between_joins = between_joins;
  })

-- ---- maps

joined_at_both : {J : Type 0} (joined : J → J → J) (x : Option J) (y : J)
    → Some (joined_at joined x y) ≡ joined_if_both joined x (Some y)
joined_at_both joined None y = refl
joined_at_both joined (Some x) y = refl

joined_none : {J : Type 0} (joined : J → J → J) (x : Option J) → x ≡ joined_if_both joined x None
joined_none joined None = refl
joined_none joined (Some x) = refl

both_true : (s t : Bool) → T s → T t → (s && t) ≡ true
both_true true true h k = refl
both_true true false h k = absurd k
both_true false t h k = absurd h

first_true : (s t : Bool) → (s && t) ≡ true → T s
first_true true t e = tt
first_true false t e = absurd (true≢false (sym e))

tied : (r : Ordering) → is_eq r ≡ true → r ≡ Equal
tied Less e = absurd (true≢false (sym e))
tied Equal e = refl
tied Greater e = absurd (true≢false (sym e))

module _ {K J : Type 0} (cmp : K → K → Ordering) where
  module _ (total : IsTotalOrder cmp) where
    -- what the joined entries have at a key
    pub find-joined_entries : (joined : J → J → J) (xs ys : List (K × J)) (q : K)
        → find cmp q (joined_entries cmp joined xs ys)
        ≡ joined_if_both joined (find cmp q xs) (find cmp q ys)
    find-joined_entries joined xs [] q = joined_none joined (find cmp q xs)
    find-joined_entries joined xs (e ∷ ys) q =
        find-put cmp total q e.0 (joined_at joined (find cmp e.0 xs) e.1)
        (joined_entries cmp joined xs ys)
        ∙ elim (eq_by_cmp cmp q e.0) as (λ t. eq_by_cmp cmp q e.0 ≡ t
        → cond t (Some (joined_at joined (find cmp e.0 xs) e.1))
        (find cmp q (joined_entries cmp joined xs ys))
        ≡ joined_if_both joined (find cmp q xs) (cond t (Some e.1) (find cmp q ys))) [
          | true ↦
              λ t. joined_at_both joined (find cmp e.0 xs) e.1
              ∙ ap (λ o. joined_if_both joined o (Some e.1))
              (find_tied cmp total q e.0 (tied (cmp q e.0) t) xs)
          | false ↦ λ t. find-joined_entries joined xs ys q
        ] refl

    -- the joined entries of a map are a map
    pub joined_entries-IsMap : (joined : J → J → J) (xs ys : List (K × J)) → IsMap cmp xs
        → IsMap cmp (joined_entries cmp joined xs ys)
    joined_entries-IsMap joined xs [] h = h
    joined_entries-IsMap joined xs (e ∷ ys) h =
        is_sorted-put cmp total e.0 (joined_at joined (find cmp e.0 xs) e.1)
        (joined_entries cmp joined xs ys) (joined_entries-IsMap joined xs ys h)

    -- of two maps the joined maps are the joined entries
    pub joined_of_maps : (joined : J → J → J) (xs ys : List (K × J)) → IsMap cmp xs → IsMap cmp ys
        → joined_maps cmp joined xs ys ≡ joined_entries cmp joined xs ys
    joined_of_maps joined xs ys h k =
        ap (λ t. cond t (joined_entries cmp joined xs ys) xs)
        (both_true (is_sorted cmp xs) (is_sorted cmp ys) h k)

    -- what the joined maps have at a key
    pub find-joined_maps : (joined : J → J → J) (xs ys : List (K × J)) → IsMap cmp xs → IsMap cmp ys
        → (q : K)
        → find cmp q (joined_maps cmp joined xs ys)
        ≡ joined_if_both joined (find cmp q xs) (find cmp q ys)
    find-joined_maps joined xs ys h k q =
        ap (find cmp q) (joined_of_maps joined xs ys h k) ∙ find-joined_entries joined xs ys q

    -- two maps joined are a map
    pub joined_maps-IsMap : (joined : J → J → J) (xs ys : List (K × J)) → IsMap cmp xs
        → IsMap cmp ys → IsMap cmp (joined_maps cmp joined xs ys)
    joined_maps-IsMap joined xs ys h k =
        subst (IsMap cmp) (sym (joined_of_maps joined xs ys h k))
        (joined_entries-IsMap joined xs ys h)

    module _ (exact : (x y : K) → cmp x y ≡ Equal → x ≡ y) where
      -- maps that have the same at each key are one
      pub same_maps : (xs ys : List (K × J)) → IsMap cmp xs → IsMap cmp ys
          → ((q : K) → find cmp q xs ≡ find cmp q ys) → xs ≡ ys
      same_maps = same_entries cmp total exact

      module _ {agree : J → J → Type 0} {joined : J → J → J} {between : J → J → J → Type 0}
          (laws : JoinLaws agree joined between) where
        -- the laws of values that may be absent, at these values
        abbrev o : JoinLaws (AgreeIfBoth agree) (joined_if_both joined) (BetweenIfBoth between)
        o = if_both_laws laws

        -- whether two maps of these values agree
        abbrev Agree : List (K × J) → List (K × J) → Type 0
        Agree = AgreeMaps cmp agree

        -- two maps of these values, joined
        abbrev join : List (K × J) → List (K × J) → List (K × J)
        join = joined_maps cmp joined

        -- maps that agree do so at each key
        pub at_of : (a b : List (K × J)) → Agree a b → (q : K)
            → AgreeIfBoth agree (find cmp q a) (find cmp q b)
        at_of a b h q = elim h as (λ _. AgreeIfBoth agree (find cmp q a) (find cmp q b)) [
          | inl e ↦
              subst (λ y. AgreeIfBoth agree (find cmp q a) (find cmp q y)) e
              (o.agree_refl (find cmp q a))
          | inr r ↦ r.at q
        ]

        -- what agrees with a map is a map
        pub also_map : (a b : List (K × J)) → Agree a b → IsMap cmp a → IsMap cmp b
        also_map a b h k = elim h as (λ _. IsMap cmp b) [
          | inl e ↦ subst (IsMap cmp) e k
          | inr r ↦ r.second
        ]

        map_symm : (a b : List (K × J)) → Agree a b → Agree b a
        map_symm a b h = elim h as (λ _. Agree b a) [
          | inl e ↦ inl (sym e)
          | inr r ↦
              inr (record {
                first = r.second;
                second = r.first;
                at =
                    λ q. o.agree_symm (find cmp q a) (find cmp q b) (r.at q);
              })
        ]

        map_idem : (a : List (K × J)) → join a a ≡ a
        map_idem a =
            elim (is_sorted cmp a && is_sorted cmp a) as
            (λ t. (is_sorted cmp a && is_sorted cmp a) ≡ t
            → cond t (joined_entries cmp joined a a) a ≡ a) [
              | true ↦ λ t. let h = first_true (is_sorted cmp a) (is_sorted cmp a) t in
                  same_maps (joined_entries cmp joined a a) a (joined_entries-IsMap joined a a h) h
                  (λ q. find-joined_entries joined a a q ∙ o.idem (find cmp q a))
              | false ↦ λ t. refl
            ] refl

        map_comm : (a b : List (K × J)) → Agree a b → join a b ≡ join b a
        map_comm a b h = elim h as (λ _. join a b ≡ join b a) [
          | inl e ↦ subst (λ y. join a y ≡ join y a) e refl
          | inr r ↦
              same_maps (join a b) (join b a) (joined_maps-IsMap joined a b r.first r.second)
              (joined_maps-IsMap joined b a r.second r.first)
              (λ q. find-joined_maps joined a b r.first r.second q
              ∙ o.comm (find cmp q a) (find cmp q b) (r.at q)
              ∙ sym (find-joined_maps joined b a r.second r.first q))
        ]

        assoc_of_maps : (a b c : List (K × J)) → IsMap cmp a → IsMap cmp b → IsMap cmp c
            → Agree a b → Agree a c → Agree b c → join (join a b) c ≡ join a (join b c)
        assoc_of_maps a b c i j k ab ac bc =
            let m = joined_maps-IsMap joined a b i j in
            let n = joined_maps-IsMap joined b c j k in
            same_maps (join (join a b) c) (join a (join b c))
            (joined_maps-IsMap joined (join a b) c m k)
            (joined_maps-IsMap joined a (join b c) i n)
            (λ q. find-joined_maps joined (join a b) c m k q
            ∙ ap (λ x. joined_if_both joined x (find cmp q c)) (find-joined_maps joined a b i j q)
            ∙ o.assoc (find cmp q a) (find cmp q b) (find cmp q c) (at_of a b ab q) (at_of a c ac q)
            (at_of b c bc q)
            ∙ ap (joined_if_both joined (find cmp q a)) (sym (find-joined_maps joined b c j k q))
            ∙ sym (find-joined_maps joined a (join b c) i n q))

        map_above : (a b : List (K × J)) → Agree a b → join a (join a b) ≡ join a b
        map_above a b h = elim h as (λ _. join a (join a b) ≡ join a b) [
          | inl e ↦ subst (λ y. join a (join a y) ≡ join a y) e (ap (join a) (map_idem a))
          | inr r ↦
              sym (assoc_of_maps a a b r.first r.first r.second (inl refl) h h)
              ∙ ap (λ x. join x b) (map_idem a)
        ]

        map_assoc : (a b c : List (K × J)) → Agree a b → Agree a c → Agree b c
            → join (join a b) c ≡ join a (join b c)
        map_assoc a b c ab ac bc = elim ab as (λ _. join (join a b) c ≡ join a (join b c)) [
          | inl e ↦
              subst (λ y. join (join a y) c ≡ join a (join y c)) e
              (ap (λ x. join x c) (map_idem a) ∙ sym (map_above a c ac))
          | inr r ↦ assoc_of_maps a b c r.first r.second (also_map a c ac r.first) (inr r) ac bc
        ]

        map_agree_joined : (a b c : List (K × J)) → Agree a b → Agree a c → Agree b c
            → Agree a (join b c)
        map_agree_joined a b c ab ac bc = elim bc as (λ _. Agree a (join b c)) [
          | inl e ↦ subst (λ y. Agree a (join b y)) e (subst (Agree a) (sym (map_idem b)) ab)
          | inr r ↦ inr (record {
            first = also_map b a (map_symm a b ab) r.first;
            second = joined_maps-IsMap joined b c r.first r.second;
            at = λ q. subst (AgreeIfBoth agree (find cmp q a))
                (sym (find-joined_maps joined b c r.first r.second q))
                (o.agree_joined (find cmp q a) (find cmp q b) (find cmp q c) (at_of a b ab q)
                (at_of a c ac q) (r.at q));
          })
        ]

        map_between_last : (a b : List (K × J)) → Agree a b → BetweenMaps cmp between a (join a b) b
        map_between_last a b h = elim h as (λ _. BetweenMaps cmp between a (join a b) b) [
          | inl e ↦ inl (subst (λ y. join a y ≡ a) e (map_idem a))
          | inr r ↦ inr (record {
            first = r.first;
            middle = joined_maps-IsMap joined a b r.first r.second;
            last = r.second;
            at = λ q. subst (λ x. BetweenIfBoth between (find cmp q a) x (find cmp q b))
                (sym (find-joined_maps joined a b r.first r.second q))
                (o.between_last (find cmp q a) (find cmp q b) (r.at q));
          })
        ]

        map_between_above : (a x b : List (K × J)) → Agree a b → BetweenMaps cmp between a x b
            → IsBelow Agree join a x
        map_between_above a x b h k = elim k as (λ _. IsBelow Agree join a x) [
          | inl e ↦ subst (IsBelow Agree join a) (sym e) (inl refl, map_idem a)
          | inr r ↦
              let below =
              λ (q : K).
              o.between_above (find cmp q a) (find cmp q x) (find cmp q b) (at_of a b h q)
              (r.at q) in (
                inr (record {
                  first = r.first;
                  second = r.middle;
                  at = λ q. let p = below q in
                      p.0;
                }),
                same_maps (join a x) x (joined_maps-IsMap joined a x r.first r.middle) r.middle
                    (λ q. let p = below q in find-joined_maps joined a x r.first r.middle q ∙ p.1),
              )
        ]

        map_between_agrees : (a x b : List (K × J)) → Agree a b → BetweenMaps cmp between a x b
            → Agree x b
        map_between_agrees a x b h k = elim k as (λ _. Agree x b) [
          | inl e ↦ subst (λ y. Agree y b) (sym e) h
          | inr r ↦
              inr (record {
                first = r.middle;
                second = r.last;
                at =
                    λ q. o.between_agrees (find cmp q a) (find cmp q x) (find cmp q b)
                    (at_of a b h q)
                    (r.at q);
              })
        ]

        map_between_joins : (a x b : List (K × J)) → Agree a b → BetweenMaps cmp between a x b
            → join x b ≡ join a b
        map_between_joins a x b h k = elim k as (λ _. join x b ≡ join a b) [
          | inl e ↦ ap (λ y. join y b) e
          | inr r ↦
              same_maps (join x b) (join a b) (joined_maps-IsMap joined x b r.middle r.last)
              (joined_maps-IsMap joined a b r.first r.last)
              (λ q. find-joined_maps joined x b r.middle r.last q
              ∙ o.between_joins (find cmp q a) (find cmp q x) (find cmp q b) (at_of a b h q)
              (r.at q)
              ∙ sym (find-joined_maps joined a b r.first r.last q))
        ]

        -- maps keep the laws, where their values do
        pub map_laws : JoinLaws (AgreeMaps cmp agree) (joined_maps cmp joined)
            (BetweenMaps cmp between)
        map_laws = join_laws (record {
          agree_refl = λ a. inl refl;
          agree_symm = map_symm;
          agree_joined = map_agree_joined;
          idem = map_idem;
          comm = map_comm;
          assoc = map_assoc;
          between_first = λ a b h. inl refl;
          between_last = map_between_last;
          between_above = map_between_above;
          between_agrees = map_between_agrees;
          between_joins = map_between_joins;
        })
