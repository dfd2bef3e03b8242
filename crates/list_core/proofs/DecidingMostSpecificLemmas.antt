-- The best of items that fit.
--
-- The best up to a place is known place by place: an item that does not fit, or has no more subtags
-- than the best so far, leaves it; one that has more takes its place. So the best is the most
-- specific, and the first of those equal. What fits in one of two ways has as its best the better
-- of the two. If the same items fit by two relations, their best is one.
use Rattle.std.proofs.Common.{ℕ, ◌≡◌, ◌≤◌, ◌<◌, ◌+◌, ◌⊎◌, List, Bool, true, false, inl, inr, refl}
use Rattle.std.proofs.Common.{sym, ap, subst, arith, length}
use Rattle.std.specs.Prelude.{Option, Some, None}
use Rattle.std.specs.List.{slice_get}
use Rattle.std.proofs.lemmas.Bool.{cases_lt, cases_order, ltb-true, ltb-false}
use Rattle.std.proofs.lemmas.Bool.Decides.{nat_tests}
use Rattle.std.proofs.lemmas.Option.{slice_get_within}
use Rattle.lang_core.specs.Text.{pieces}
use Rattle.lang_core.specs.Matching.{specificity}
use Rattle.list_core.proofs.Basics.{same_at}
use Rattle.list_core.specs.Item.{Item}
use Rattle.list_core.specs.Deciding.{IsBestOf, IsBest, NoneFits}
use Rattle.list_core.specs.inner.Deciding.{better_of, is_worse, is_above}
use Rattle.list_core.specs.declared.deciding.MostSpecific.{MostSpecific}

-- what is_worse says, both ways
worse_is : (best other : MostSpecific) → is_worse best other ≡ true
    → (best.specificity < other.specificity)
    ⊎ ((best.specificity ≡ other.specificity) × (other.place < best.place))
worse_is best other h = grind (arith, nat_tests)

not_worse : (best other : MostSpecific) → is_worse best other ≡ false
    → (other.specificity ≤ best.specificity)
    × (best.specificity ≡ other.specificity → best.place ≤ other.place)
not_worse best other h = (grind (arith, nat_tests), λ e. grind (arith, nat_tests))

-- ---- what fits changes

-- The same items fit at the same places, by either relation.
abbrev pub Same : (ℕ → Item → Type 0) → (ℕ → Item → Type 0) → Type 0
Same P Q = (k : ℕ) (i : Item) → (P k i → Q k i) × (Q k i → P k i)

-- Where the same items fit, the best of them is the same.
pub best_same : (P Q : ℕ → Item → Type 0) (items : List Item) (best : Option MostSpecific)
    → Same P Q → IsBest P items best → IsBest Q items best
best_same P Q items None same h = λ k other s q. h k other s ((same k other).1 q)
best_same P Q items (Some best) same h = record {
  item = h.item;
  stands = h.stands;
  specificity_is = h.specificity_is;
  fits = (same best.place h.item).0 h.fits;
  most = λ k other s q. h.most k other s ((same k other).1 q);
  first = λ k other low s q. h.first k other low s ((same k other).1 q);
}

-- ---- the better of two

-- What fits by the third relation is what fits by the first or the second.
abbrev pub Joins : (ℕ → Item → Type 0) → (ℕ → Item → Type 0) → (ℕ → Item → Type 0) → Type 0
Joins P Q R = (k : ℕ) (i : Item) → (P k i → R k i) × (Q k i → R k i) × (R k i → P k i ⊎ Q k i)

-- the first of two, where the second is no better
first_wins : (P Q R : ℕ → Item → Type 0) (items : List Item) (a b : MostSpecific) → Joins P Q R
    → (b.specificity ≤ a.specificity) → (a.specificity ≡ b.specificity → a.place ≤ b.place)
    → IsBestOf P items a → IsBestOf Q items b → IsBestOf R items a
first_wins P Q R items a b joins le tie p q = record {
  item = p.item;
  stands = p.stands;
  specificity_is = p.specificity_is;
  fits = (joins a.place p.item).0 p.fits;
  most = λ k other s r. elim ((joins k other).2 r) [
    | inl f ↦ p.most k other s f
    | inr f ↦ (let m = q.most k other s f in omega arith)
  ];
  first = λ k other low s r. elim ((joins k other).2 r) [
    | inl f ↦ p.first k other low s f
    | inr f ↦ (let m = q.most k other s f in elim (cases_order b.specificity a.specificity) [
      | inl e ↦ (let same = tie (sym e) in let l = q.first k other (omega arith) s f in omega arith)
      | inr e ↦ elim e [
        | inl less ↦ omega arith
        | inr more ↦ omega arith
      ]
    ])
  ];
}

flipped : (P Q R : ℕ → Item → Type 0) → Joins P Q R → Joins Q P R
flipped P Q R joins = λ k i. let j = joins k i in
    (j.1, j.0, λ r. elim (j.2 r) [ inl p ↦ inr p | inr q ↦ inl q ])

one_wins : (P Q R : ℕ → Item → Type 0) (items : List Item) (a : MostSpecific) → Joins P Q R
    → IsBestOf P items a → NoneFits Q items → IsBestOf R items a
one_wins P Q R items a joins p none = record {
  item = p.item;
  stands = p.stands;
  specificity_is = p.specificity_is;
  fits = (joins a.place p.item).0 p.fits;
  most =
      λ k other s r.
      elim ((joins k other).2 r) [ inl f ↦ p.most k other s f | inr f ↦ absurd (none k other s f) ];
  first =
      λ k other low s r.
      elim ((joins k other).2 r) [
        | inl f ↦ p.first k other low s f
        | inr f ↦
            absurd (none k other s f)
      ];
}

decided : (P Q R : ℕ → Item → Type 0) (items : List Item) (a b : MostSpecific) (w : Bool)
    → is_worse a b ≡ w → Joins P Q R → IsBestOf P items a → IsBestOf Q items b
    → IsBest R items (better_of (Some a) (Some b))
decided P Q R items a b true e joins p q = elim (worse_is a b e) [
  | inl more ↦
      rw e (first_wins Q P R items b a (flipped P Q R joins) (omega arith)
      (λ t. absurd (omega arith)) q p)
  | inr tie ↦
      rw e (first_wins Q P R items b a (flipped P Q R joins) (let t = tie.0 in omega arith)
      (λ _. let t = tie.1 in omega arith) q p)
]
decided P Q R items a b false e joins p q = let n = not_worse a b e in
    rw e (first_wins P Q R items a b joins n.0 n.1 p q)

-- the better of the best of two kinds is the best of both
pub better_joins : (P Q R : ℕ → Item → Type 0) (items : List Item) (a b : Option MostSpecific)
    → Joins P Q R → IsBest P items a → IsBest Q items b → IsBest R items (better_of a b)
better_joins P Q R items None None joins p q =
    λ k other s r. elim ((joins k other).2 r) [ inl f ↦ p k other s f | inr f ↦ q k other s f ]
better_joins P Q R items None (Some b) joins p q = one_wins Q P R items b (flipped P Q R joins) q p
better_joins P Q R items (Some a) None joins p q = one_wins P Q R items a joins p q
better_joins P Q R items (Some a) (Some b) joins p q =
    decided P Q R items a b (is_worse a b) refl joins p q

-- ---- the items before a place

-- An item that fits at a place before `n`.
abbrev pub Before : (ℕ → Item → Type 0) → ℕ → ℕ → Item → Type 0
Before Fits n k i = (k < n) × Fits k i

moved : (Fits : ℕ → Item → Type 0) (k n : ℕ) (i j : Item) → k ≡ n → j ≡ i → Fits k j → Fits n i
moved Fits k n i j e f h = subst (λ (m : ℕ). Fits m i) e (subst (Fits k) f h)

-- Before the first place nothing fits, so there is no best.
pub none_before : (Fits : ℕ → Item → Type 0) (items : List Item) → IsBest (Before Fits 0) items None
none_before Fits items = λ k other s f. let low = f.0 in absurd (omega arith)

-- an item that does not fit, or has no more subtags than the best, changes nothing
pub passed : (Fits : ℕ → Item → Type 0) (items : List Item) (n : ℕ) (i : Item)
    (best : Option MostSpecific) → slice_get items n ≡ Some i
    → (Fits n i → is_above best (specificity (pieces i.range)) ≡ false)
    → IsBest (Before Fits n) items best → IsBest (Before Fits (n + 1)) items best
passed Fits items n i None s not h = λ k other t f. elim (cases_lt k n) [
  | inl low ↦ h k other t (low, f.1)
  | inr high ↦
      (let l = f.0 in let e =
      not (moved Fits k n i other (omega arith) (same_at items k n i other (omega arith) s t) f.1)
      in cc)
]
passed Fits items n i (Some best) s not h = record {
  item = h.item;
  stands = h.stands;
  specificity_is = h.specificity_is;
  fits = (let l = h.fits.0 in omega arith, h.fits.1);
  most = λ k other t f. elim (cases_lt k n) [
    | inl low ↦ h.most k other t (low, f.1)
    | inr high ↦ (let l = f.0 in let same = same_at items k n i other (omega arith) s t in
        let size : specificity (pieces other.range) ≡ specificity (pieces i.range) =
        ap (λ (x : Item). specificity (pieces x.range)) same in
        let le : specificity (pieces i.range) ≤ best.specificity =
        ltb-false _ _ (not (moved Fits k n i other (omega arith) same f.1)) in
        omega arith)
  ];
  first = λ k other low t f. let l = h.fits.0 in h.first k other low t (omega arith, f.1);
}

-- one that fits and has more subtags is the best
pub newest : (Fits : ℕ → Item → Type 0) (items : List Item) (n many : ℕ) (i : Item)
    (best : Option MostSpecific) → slice_get items n ≡ Some i → many ≡ specificity (pieces i.range)
    → Fits n i → is_above best many ≡ true → IsBest (Before Fits n) items best
    → IsBest (Before Fits (n + 1)) items (Some (record { place = n; specificity = many }))
newest Fits items n many i best s e fits above h = record {
  item = i;
  stands = s;
  specificity_is = e;
  fits = (omega arith, fits);
  most = λ k other t f. elim (cases_lt k n) [
    | inl low ↦
        (let less = below_best Fits items n many best h above k other t (low, f.1) in omega arith)
    | inr high ↦ (let l = f.0 in
        let size : specificity (pieces other.range) ≡ specificity (pieces i.range) =
        ap (λ (x : Item). specificity (pieces x.range))
        (same_at items k n i other (omega arith) s t) in
        omega arith)
  ];
  first = λ k other low t f. below_best Fits items n many best h above k other t (low, f.1);
} where
  below_best : (Fits : ℕ → Item → Type 0) (items : List Item) (n many : ℕ)
      (best : Option MostSpecific) → IsBest (Before Fits n) items best → is_above best many ≡ true
      → (k : ℕ) (other : Item) → slice_get items k ≡ Some other → Before Fits n k other
      → specificity (pieces other.range) < many
  below_best Fits items n many None h above k other t f = absurd (h k other t f)
  below_best Fits items n many (Some best) h above k other t f = let le = h.most k other t f in
      let lt = ltb-true _ _ above in omega arith

-- places at which nothing fits change nothing
pub passed_to : (Fits : ℕ → Item → Type 0) (items : List Item) (m n : ℕ)
    (best : Option MostSpecific) → m ≤ n → ((k : ℕ) (i : Item) → m ≤ k → k < n → ¬ Fits k i)
    → IsBest (Before Fits m) items best → IsBest (Before Fits n) items best
passed_to Fits items m n best le none h = best_same (Before Fits m) (Before Fits n) items best
    (λ k i. (
      (λ f. (let l = f.0 in omega arith, f.1)),
      (λ f. elim (cases_lt k m) [
        | inl low ↦ (low, f.1)
        | inr high ↦ absurd (none k i (omega arith) f.0 f.1)
      ]),
    ))
    h

-- The best of the items before the end of the list, or a later place, is the best of all.
pub all_before : (Fits : ℕ → Item → Type 0) (items : List Item) (n : ℕ) (best : Option MostSpecific)
    → length items ≤ n → IsBest (Before Fits n) items best → IsBest Fits items best
all_before Fits items n None low h =
    λ k other t f. h k other t (let l = slice_get_within items k other t in omega arith, f)
all_before Fits items n (Some best) low h = record {
  item = h.item;
  stands = h.stands;
  specificity_is = h.specificity_is;
  fits = h.fits.1;
  most =
      λ k other t f. h.most k other t (let l = slice_get_within items k other t in omega arith, f);
  first =
      λ k other lt t f. h.first k other lt t
      (let l = slice_get_within items k other t in omega arith, f);
}

-- ---- the item at a place

-- An item that fits, at the place `n`.
abbrev pub At : (Item → Type 0) → ℕ → ℕ → Item → Type 0
At Fits n k i = (k ≡ n) × Fits i

-- An item that fits is the best at its place.
pub best_here : (Fits : Item → Type 0) (items : List Item) (n many : ℕ) (i : Item)
    → slice_get items n ≡ Some i → many ≡ specificity (pieces i.range) → Fits i
    → IsBest (At Fits n) items (Some (record { place = n; specificity = many }))
best_here Fits items n many i s e fits = record {
  item = i;
  stands = s;
  specificity_is = e;
  fits = (refl, fits);
  most =
      λ k other t f.
      (let size : specificity (pieces other.range) ≡ specificity (pieces i.range) =
      ap (λ (x : Item). specificity (pieces x.range)) (same_at items k n i other f.0 s t) in
      omega arith);
  first = λ k other low t f. (let same = f.0 in absurd (omega arith));
}

-- Where the item at a place does not fit, there is no best at it.
pub none_here : (Fits : Item → Type 0) (items : List Item) (n : ℕ) (i : Item)
    → slice_get items n ≡ Some i → ¬ Fits i → IsBest (At Fits n) items None
none_here Fits items n i s not =
    λ k other t f. not (subst Fits (same_at items k n i other f.0 s t) f.1)

-- the best of the items before a place, and the item at it
pub joined_at : (Fits : Item → Type 0) (items : List Item) (n : ℕ)
    (best found : Option MostSpecific) → IsBest (Before (λ _ i. Fits i) n) items best
    → IsBest (At Fits n) items found
    → IsBest (Before (λ _ i. Fits i) (n + 1)) items (better_of best found)
joined_at Fits items n best found h f =
    better_joins (Before (λ _ i. Fits i) n) (At Fits n) (Before (λ _ i. Fits i) (n + 1)) items best
    found
    (λ k i. (
      (λ p. (let l = p.0 in omega arith, p.1)),
      (λ p. (let e = p.0 in omega arith, p.1)),
      (λ p. elim (cases_lt k n) [
        | inl low ↦ inl (low, p.1)
        | inr high ↦ inr ((let l = p.0 in omega arith), p.1)
      ]),
    ))
    h f
