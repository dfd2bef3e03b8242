-- The latest stamp of joined catalogues.
use Rattle.std.proofs.Common.{◌≡◌, inl, inr, true, false, cond, [], ◌∷◌, Option, Some, None, Result}
use Rattle.std.proofs.Common.{Ok, Err, OnOk, refl, sym, ap, ◌∙◌, subst, true≢false}
use Rattle.std.specs.declared.cmp.Ordering.TheVariants.{Less, Equal, Greater}
use Rattle.std.specs.Ordering.{is_eq, is_lt, eq_by_cmp}
use Rattle.std.specs.Result.{is_ok}
use Rattle.std.specs.FinMap.Entries.{find, put, by_order, is_sorted, below_all}
use Rattle.cell_core.specs.declared.cell.Cell.{Cell}
use Rattle.cell_core.specs.declared.stamp.Stamp.{Stamp}
use Rattle.cell_core.specs.Cell.{joined_stamps, joined_cells}
use Rattle.cell_core.specs.inner.Cell.{stamp_laws}
use Rattle.cell_core.specs.Keyed.{IsMap, joined_if_both, joined_at, joined_entries}
use Rattle.cell_core.specs.inner.KeyedLaws.{if_both_laws, joined_of_maps, find-joined_entries}
use Rattle.cell_core.specs.Stamp.{stamp_cmp}
use Rattle.cell_core.specs.Entry.{EntryKey, key_cmp}
use Rattle.cell_core.specs.inner.Entry.{key_cmp_total}
use Rattle.catalogue.specs.Entries.{Entry, Entries, Agree, joined}
use Rattle.catalogue.specs.inner.Entries.{catalogue_laws}
use Rattle.catalogue.specs.CatalogueLatest.{latest_of}
use Rattle.cell_core.proofs.Basics.{first_part, second_part}
use Rattle.catalogue.proofs.Basics.{some_same}
use Rattle.cell_core.proofs.KeyedPlacesLemmas.{find-below}
use Rattle.catalogue.proofs.CatalogueLatestLemmas.{always, latest_assoc, latest_with_none}

abbrev both : Option Stamp → Option Stamp → Option Stamp
both = joined_if_both joined_stamps

idem : (a : Option Stamp) → both a a ≡ a
idem a = let o = if_both_laws stamp_laws in o.idem a

comm : (a b : Option Stamp) → both a b ≡ both b a
comm a b = let o = if_both_laws stamp_laws in o.comm a b (always a b)

swap : (a b c : Option Stamp) → both a (both b c) ≡ both b (both a c)
swap a b c = sym (latest_assoc a b c) ∙ ap (λ x. both x c) (comm a b) ∙ latest_assoc b a c

again : (a c : Option Stamp) → both a (both a c) ≡ both a c
again a c = sym (latest_assoc a a c) ∙ ap (λ x. both x c) (idem a)

-- the stamp of a cell that is held is none above the latest
held_below : (es : Entries) (k : EntryKey) (c : Cell) → find key_cmp k es ≡ Some c
    → both (Some c.stamp) (latest_of es) ≡ latest_of es
held_below [] k c is = absurd (cc)
held_below (e ∷ es) k c is =
    elim (eq_by_cmp key_cmp k e.0) as
    (λ t. cond t (Some e.1) (find key_cmp k es) ≡ Some c
    → both (Some c.stamp) (both (Some e.1.stamp) (latest_of es))
    ≡ both (Some e.1.stamp) (latest_of es)) [
      | true ↦ λ is.
          let same : e.1 ≡ c = some_same e.1 c is in
          subst (λ (x : Cell). both (Some x.stamp) (both (Some e.1.stamp) (latest_of es))
          ≡ both (Some e.1.stamp) (latest_of es)) same (again (Some e.1.stamp) (latest_of es))
      | false ↦
          λ is. swap (Some c.stamp) (Some e.1.stamp) (latest_of es)
          ∙ ap (both (Some e.1.stamp)) (held_below es k c is)
    ] is

-- a cell put in place of none, or of one with no greater stamp
latest_put_above : (k : EntryKey) (v : Cell) (es : Entries)
    → ((c : Cell) → find key_cmp k es ≡ Some c → joined_stamps c.stamp v.stamp ≡ v.stamp)
    → latest_of (put key_cmp k v es) ≡ both (Some v.stamp) (latest_of es)
latest_put_above k v [] above = refl
latest_put_above k v (e ∷ es) above =
    elim (key_cmp k e.0) as
    (λ r. key_cmp k e.0 ≡ r
    → latest_of (by_order r ((k, v) ∷ e ∷ es) ((e.0, v) ∷ es) (e ∷ put key_cmp k v es))
    ≡ both (Some v.stamp) (both (Some e.1.stamp) (latest_of es))) [
      | Less ↦ λ t. refl
      | Equal ↦
          λ t. sym
          (sym (latest_assoc (Some v.stamp) (Some e.1.stamp) (latest_of es))
          ∙ ap (λ x. both x (latest_of es))
          (comm (Some v.stamp) (Some e.1.stamp)
          ∙ ap Some (above e.1 (ap (λ r. cond (is_eq r) (Some e.1) (find key_cmp k es)) t))))
      | Greater ↦ λ t.
          ap (both (Some e.1.stamp))
          (latest_put_above k v es
          (λ c is. above c (ap (λ r. cond (is_eq r) (Some e.1) (find key_cmp k es)) t ∙ is)))
          ∙ swap (Some e.1.stamp) (Some v.stamp) (latest_of es)
    ] refl

abbrev stamp_of : Cell → Stamp
stamp_of c = c.stamp

stamp_joined : (c d : Cell) → stamp_of (joined_cells c d) ≡ joined_stamps c.stamp d.stamp
stamp_joined c d =
    elim (is_lt (stamp_cmp c.stamp d.stamp)) as
    (λ t. stamp_of (cond t d c) ≡ cond t d.stamp c.stamp) [ true ↦ refl | false ↦ refl ]

-- the join of both stamps is none below the first
joined_again : (s t : Stamp) → joined_stamps s (joined_stamps s t) ≡ joined_stamps s t
joined_again s t =
    some_same (joined_stamps s (joined_stamps s t)) (joined_stamps s t) (again (Some s) (Some t))

above_held : (o : Option Cell) (d c : Cell) → o ≡ Some c
    → joined_stamps c.stamp (stamp_of (joined_at joined_cells o d))
    ≡ stamp_of (joined_at joined_cells o d)
above_held None d c is = absurd (cc)
above_held (Some x) d c is =
    let same : x ≡ c = some_same x c is in
    subst (λ (y : Cell). joined_stamps y.stamp (stamp_of (joined_cells x d))
    ≡ stamp_of (joined_cells x d)) same
    (ap (joined_stamps x.stamp) (stamp_joined x d) ∙ joined_again x.stamp d.stamp
    ∙ sym (stamp_joined x d))

-- one more cell of the other
one_more : (xs : Entries) (k : EntryKey) (d : Cell) (o : Option Cell) (rest : Option Stamp)
    → find key_cmp k xs ≡ o
    → both (Some (stamp_of (joined_at joined_cells o d))) (both (latest_of xs) rest)
    ≡ both (latest_of xs) (both (Some d.stamp) rest)
one_more xs k d None rest is = swap (Some d.stamp) (latest_of xs) rest
one_more xs k d (Some x) rest is =
    let all = both (latest_of xs) rest in
    ap (λ s. both (Some s) (both (latest_of xs) rest)) (stamp_joined x d)
    ∙ ap (λ y. both y (both (latest_of xs) rest)) (comm (Some x.stamp) (Some d.stamp))
    ∙ latest_assoc (Some d.stamp) (Some x.stamp) (both (latest_of xs) rest)
    ∙ ap (both (Some d.stamp))
    (sym (latest_assoc (Some x.stamp) (latest_of xs) rest)
    ∙ ap (λ y. both y rest) (held_below xs k x is))
    ∙ swap (Some d.stamp) (latest_of xs) rest

-- A cell joined with none stays as it is.
pub first_alone : (o : Option Cell) → joined_if_both joined_cells o None ≡ o
first_alone None = refl
first_alone (Some c) = refl

-- at the other's first key the join of the rest has what the first has
pub found_first : (xs ys : Entries) (e : Entry) → IsMap key_cmp (e ∷ ys)
    → find key_cmp e.0 (joined_entries key_cmp joined_cells xs ys) ≡ find key_cmp e.0 xs
found_first xs ys e m =
    find-joined_entries key_cmp key_cmp_total joined_cells xs ys e.0
    ∙ ap (joined_if_both joined_cells (find key_cmp e.0 xs))
    (find-below key_cmp e.0 ys (first_part (below_all key_cmp e.0 ys) (is_sorted key_cmp ys) m))
    ∙ first_alone (find key_cmp e.0 xs)

latest_entries : (xs ys : Entries) → IsMap key_cmp ys
    → latest_of (joined_entries key_cmp joined_cells xs ys) ≡ both (latest_of xs) (latest_of ys)
latest_entries xs [] m = sym (latest_with_none (latest_of xs))
latest_entries xs (e ∷ ys) m =
    let rest = joined_entries key_cmp joined_cells xs ys in
    let o = find key_cmp e.0 xs in
    let there = found_first xs ys e m in
    latest_put_above e.0 (joined_at joined_cells o e.1) rest
    (λ c is. above_held o e.1 c (sym there ∙ is))
    ∙ ap (both (Some (stamp_of (joined_at joined_cells o e.1))))
    (latest_entries xs ys (second_part (below_all key_cmp e.0 ys) (is_sorted key_cmp ys) m))
    ∙ one_more xs e.0 e.1 o (latest_of ys) refl

-- the latest stamp of a join is the later of both
pub latest_joined : (a b : Entries) → Agree a b
    → latest_of (joined a b) ≡ joined_if_both joined_stamps (latest_of a) (latest_of b)
latest_joined a b agree =
    elim agree as (λ _. latest_of (joined a b) ≡ both (latest_of a) (latest_of b)) [
      | inl e ↦
          subst (λ y. latest_of (joined a y) ≡ both (latest_of a) (latest_of y)) e
          (ap latest_of (catalogue_laws.idem a) ∙ sym (idem (latest_of a)))
      | inr r ↦
          ap latest_of (joined_of_maps key_cmp key_cmp_total joined_cells a b r.first r.second)
          ∙ latest_entries a b r.second
    ]

-- ---- what holds of a result that is Ok

-- What is claimed of success holds where the result tests as a success.
pub at_ok : {A E P : Type 0} (r : Result A E) → OnOk r P → is_ok r ≡ true → P
at_ok (Ok x) p h = p
at_ok (Err e) p h = absurd (true≢false (sym h))
