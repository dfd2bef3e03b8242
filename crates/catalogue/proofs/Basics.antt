-- Small lemmas on tests, orders and options.
use Rattle.std.proofs.Common.{◌≡◌, ◌<◌, Bool, true, false, ◌&&◌, ℕ, List, [], ◌∷◌, ◌++◌}
use Rattle.std.proofs.Common.{Some, None, refl, sym, ap, ◌∙◌, arith, length, true≢false}
use Rattle.std.proofs.Common.{zero, suc}
use Rattle.std.specs.List.{slice_get}
use Rattle.std.specs.declared.cmp.Ordering.{Ordering}
use Rattle.std.specs.declared.cmp.Ordering.TheVariants.{Less, Equal, Greater}
use Rattle.std.specs.Ordering.{is_eq, is_lt, is_gt, ordering_reverse, ordering_then}
use Rattle.lang_core.proofs.Basics.{less_of, is_false as false_if}

-- ---- tests

-- Where a conjunction is true, its first test is true.
pub first_so : (a b : Bool) → (a && b) ≡ true → a ≡ true
first_so true b p = refl
first_so false b p = absurd (true≢false (sym p))

-- Where a conjunction is true, its second test is true.
pub second_so : (a b : Bool) → (a && b) ≡ true → b ≡ true
second_so true b p = p
second_so false b p = absurd (true≢false (sym p))

-- ---- orders

-- A comparison that is not `Less` does not test as less.
pub not_lt : (r : Ordering) → (r ≡ Less → ⊥) → is_lt r ≡ false
not_lt r h = false_if (is_lt r) (λ e. h (less_of r e))

-- A comparison that does not test as less is not `Less`.
pub not_less_of : (r : Ordering) → is_lt r ≡ false → r ≡ Less → ⊥
not_less_of r e less = true≢false (sym (ap is_lt less) ∙ e)

-- A reversed comparison is greater exactly where the comparison is less.
pub turned_gt : (r : Ordering) → is_gt (ordering_reverse r) ≡ is_lt r
turned_gt Less = refl
turned_gt Equal = refl
turned_gt Greater = refl

-- Two pairs are not equal where their first parts are not.
pub apart_first : (r s : Ordering) → is_eq r ≡ false → is_eq (ordering_then r s) ≡ false
apart_first Less s e = refl
apart_first Equal s e = absurd (true≢false e)
apart_first Greater s e = refl

-- ---- options and lists

-- Values that are equal under `Some` are equal.
pub some_same : {X : Type 0} (x y : X) → Some x ≡ Some y → x ≡ y
some_same x y e = cc

-- A list with the empty list appended is the same list.
pub append_nil : {X : Type 0} (xs : List X) → xs ++ [] ≡ xs
append_nil [] = refl
append_nil (x ∷ xs) = ap (λ ys. x ∷ ys) (append_nil xs)

-- At a place of the first list two appended lists have what the first has.
pub slice_get-front : {X : Type 0} (xs ys : List X) (n : ℕ) → n < length xs
    → slice_get (xs ++ ys) n ≡ slice_get xs n
slice_get-front [] ys n lt = absurd (omega (arith, lt))
slice_get-front (x ∷ xs) ys zero lt = refl
slice_get-front (x ∷ xs) ys (suc n) lt = slice_get-front xs ys n (omega (arith, lt))

-- Each place within a list has an element.
pub there : {X : Type 0} (xs : List X) (i : ℕ) → i < length xs → slice_get xs i ≡ None → ⊥
there [] i lt e = omega (arith, lt)
there (x ∷ xs) zero lt e = cc
there (x ∷ xs) (suc i) lt e = there xs i (omega (arith, lt)) e
