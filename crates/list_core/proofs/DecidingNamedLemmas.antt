-- What the items other than "*" refuse, said of the list without "*".
use Rattle.std.proofs.Common.{ℕ, ◌≡◌, ◌≤◌, ◌<◌, List, [], ◌∷◌, Some, Bool, true, false, cond, inl}
use Rattle.std.proofs.Common.{inr, refl, sym, ◌∙◌, ap, arith}
use Rattle.std.specs.Prelude.{zero, suc, ◌↔◌, if◌then◌else◌}
use Rattle.std.specs.List.{slice_get}
use Rattle.std.proofs.lemmas.Bool.{cases_Bool, cases_lt}
use Rattle.std.proofs.lemmas.Slice.Eq.{bytes_eq-Decides}
use Rattle.lang_core.proofs.Basics.{true_not as not_true, not_false}
use Rattle.list_core.proofs.Basics.{false_true}
use Rattle.list_core.specs.Item.{Item}
use Rattle.list_core.specs.Deciding.{IsAny, IsDecidingNamed, NamedRefuse, IsDeciding, IsDecidedBy}
use Rattle.list_core.specs.Deciding.{is_named, named_items}
use Rattle.list_core.specs.declared.scheme.Scheme.TheVariants as scheme

named_no_any : (i : Item) → is_named i ≡ true → ¬ IsAny i
named_no_any i e a = false_true (sym (not_true _ e) ∙ (bytes_eq-Decides i.range (42 ∷ [])).1 a)

no_any_named : (i : Item) → ¬ IsAny i → is_named i ≡ true
no_any_named i n = elim (cases_Bool (is_named i)) [
  | inl e ↦ e
  | inr e ↦ absurd (n ((bytes_eq-Decides i.range (42 ∷ [])).0 (not_false _ e)))
]

-- ---- where an item is in the list without "*"

rank : List Item → ℕ → ℕ
rank [] k = 0
rank (i ∷ items) zero = 0
rank (i ∷ items) (suc k) = if is_named i then suc (rank items k) else rank items k

stands_up : (items : List Item) (k : ℕ) (i : Item) → slice_get items k ≡ Some i → is_named i ≡ true
    → slice_get (named_items items) (rank items k) ≡ Some i
unfolding rank
stands_up [] k i s n = cc
stands_up (j ∷ items) zero i s n = let e : j ≡ i = cc in let t : is_named j ≡ true =
    ap is_named e ∙ n in rw t (ap Some e)
stands_up (j ∷ items) (suc k) i s n = elim (cases_Bool (is_named j)) [
  | inl e ↦ rw e (stands_up items k i s n)
  | inr e ↦ rw e (stands_up items k i s n)
]

rank_ascends : (items : List Item) (k p : ℕ) → k ≤ p → rank items k ≤ rank items p
unfolding rank
rank_ascends [] k p h = omega arith
rank_ascends (j ∷ items) zero p h = omega arith
rank_ascends (j ∷ items) (suc k) zero h = absurd (omega arith)
rank_ascends (j ∷ items) (suc k) (suc p) h = elim (cases_Bool (is_named j)) [
  | inl e ↦ rw e (let r = rank_ascends items k p (omega arith) in omega arith)
  | inr e ↦ rw e (rank_ascends items k p (omega arith))
]

rank_below : (items : List Item) (k p : ℕ) (i : Item) → slice_get items k ≡ Some i
    → is_named i ≡ true → k < p → rank items k < rank items p
unfolding rank
rank_below [] k p i s n h = cc
rank_below (j ∷ items) zero zero i s n h = absurd (omega arith)
rank_below (j ∷ items) zero (suc p) i s n h = let e : j ≡ i = cc in let t : is_named j ≡ true =
    ap is_named e ∙ n in rw t (omega arith)
rank_below (j ∷ items) (suc k) zero i s n h = absurd (omega arith)
rank_below (j ∷ items) (suc k) (suc p) i s n h = elim (cases_Bool (is_named j)) [
  | inl e ↦ rw e (let r = rank_below items k p i s n (omega arith) in omega arith)
  | inr e ↦ rw e (rank_below items k p i s n (omega arith))
]

-- where an item of the list without "*" is in the whole list
record IsTaken (items : List Item) (n : ℕ) (i : Item) : Type 0 where
  place : ℕ
  stands : slice_get items place ≡ Some i
  named : is_named i ≡ true
  rank_is : rank items place ≡ n

taken_first : (j : Item) (items : List Item) (n : ℕ) (i : Item) (b : Bool) → is_named j ≡ b
    → slice_get (cond b (j ∷ named_items items) (named_items items)) n ≡ Some i
    → ((m : ℕ) → slice_get (named_items items) m ≡ Some i → IsTaken items m i)
    → IsTaken (j ∷ items) n i
unfolding rank
taken_first j items zero i true e s rest = let same : j ≡ i = cc in
    record { place = 0; stands = s; named = ap is_named (sym same) ∙ e; rank_is = refl }
taken_first j items (suc n) i true e s rest = let t = rest n s in
    record {
      place = suc t.place;
      stands = t.stands;
      named = t.named;
      rank_is =
          rw e (ap suc t.rank_is);
    }
taken_first j items n i false e s rest = let t = rest n s in
    record { place = suc t.place; stands = t.stands; named = t.named; rank_is = rw e t.rank_is }

taken : (items : List Item) (n : ℕ) (i : Item) → slice_get (named_items items) n ≡ Some i
    → IsTaken items n i
taken [] n i s = cc
taken (j ∷ items) n i s = taken_first j items n i (is_named j) refl s (λ m t. taken items m i t)

-- ---- the deciding item, of both lists

named_alone : (items : List Item) (tag : List (List ℕ)) (p : ℕ) → (d : IsDecidingNamed items tag p)
    → IsDecidedBy scheme.Basic (named_items items) tag (rank items p) d.item.weight
named_alone items tag p d = (
  record {
    item = d.item;
    stands = stands_up items p d.item d.stands (no_any_named d.item d.fits.0);
    fits = d.fits.1;
    most =
        λ n other s f.
        (let t = taken items n other s in
        d.most t.place other t.stands (named_no_any other t.named, f));
    first = λ n other low s f. (let t = taken items n other s in elim (cases_lt t.place p) [
      | inl less ↦ d.first t.place other less t.stands (named_no_any other t.named, f)
      | inr more ↦
          absurd (let r = rank_ascends items p t.place more in let e = t.rank_is in omega arith)
    ]);
  },
  refl,
)

named_within : (items : List Item) (tag : List (List ℕ)) (n : ℕ)
    → (d : IsDeciding scheme.Basic (named_items items) tag n) → (t : IsTaken items n d.item)
    → (e : IsDecidingNamed items tag t.place) × (e.item.weight ≡ d.item.weight)
named_within items tag n d t = (
  record {
    item = d.item;
    stands = t.stands;
    fits = (named_no_any d.item t.named, d.fits);
    most =
        λ k other s f. d.most (rank items k) other
        (stands_up items k other s (no_any_named other f.0)) f.1;
    first =
        λ k other low s f.
        (let r = rank_below items k t.place other s (no_any_named other f.0) low in let e =
        t.rank_is in
        d.first (rank items k) other (omega arith)
        (stands_up items k other s (no_any_named other f.0)) f.1);
  },
  refl,
)

-- the items other than "*" refuse a tag where the list without "*" does
pub named_refuse : (items : List Item) (tag : List (List ℕ)) → NamedRefuse items tag
    ↔ ((place : ℕ) × IsDecidedBy scheme.Basic (named_items items) tag place 0)
named_refuse items tag = (
  (λ r. (let d = named_alone items tag r.0 r.1.0 in (rank items r.0, (d.0, d.1 ∙ r.1.1)))),
  (λ r. (let t = taken items r.0 r.1.0.item r.1.0.stands in let d =
      named_within items tag r.0 r.1.0 t in (t.place, (d.0, d.1 ∙ r.1.1)))),
)
