-- Small facts on tests and comparisons.
use Rattle.std.proofs.Common.{ℕ, ◌≡◌, ◌≤◌, ◌<◌, ◌⊎◌, inl, inr, Bool, true, false, refl, arith}
use Rattle.std.proofs.Common.{sym, true≢false}
use Rattle.std.specs.Prelude.{nat_le, nat_lt, ◌&&◌, ◌||◌, not}
use Rattle.std.specs.Ordering.{is_lt as is_less, ordering_reverse, ordering_then}
use Rattle.std.specs.declared.cmp.Ordering.{Ordering}
use Rattle.std.specs.declared.cmp.Ordering.TheVariants.{Less, Equal, Greater}
use Rattle.std.proofs.lemmas.Bool.Decides.{nat_tests}

-- A truth value is true or false.
pub cases_bool : (b : Bool) → (b ≡ true) ⊎ (b ≡ false)
cases_bool true = inl refl
cases_bool false = inr refl

-- Where `a && b` is true, both are true.
pub each_true : (a b : Bool) → a && b ≡ true → (a ≡ true) × (b ≡ true)
each_true true b h = (refl, h)
each_true false b h = cc

-- Where both are true, `a && b` is true.
pub both : (a b : Bool) → a ≡ true → b ≡ true → a && b ≡ true
both true b p q = q
both false b p q = p

-- Where `a || b` is true, one of the two is true.
pub one_true : (a b : Bool) → a || b ≡ true → (a ≡ true) ⊎ (b ≡ true)
one_true true b h = inl refl
one_true false b h = inr h

-- Where the first is true, `a || b` is true.
pub or_left : (a b : Bool) → a ≡ true → a || b ≡ true
or_left true b h = refl
or_left false b h = cc

-- Where the second is true, `a || b` is true.
pub or_right : (a b : Bool) → b ≡ true → a || b ≡ true
or_right true b h = refl
or_right false b h = h

-- Where `a || b` is true and the first is false, the second is true.
pub other_true : (a b : Bool) → a || b ≡ true → a ≡ false → b ≡ true
other_true true b h e = cc
other_true false b h e = h

-- Any value `&&` false is false.
pub and_false : (b : Bool) → b && false ≡ false
and_false true = refl
and_false false = refl

-- Any value `&&` true is the value.
pub and_true : (b : Bool) → b && true ≡ b
and_true true = refl
and_true false = refl

-- Any value `||` false is the value.
pub or_false : (b : Bool) → b || false ≡ b
or_false true = refl
or_false false = refl

-- A truth value that cannot be true is false.
pub is_false : (b : Bool) → (b ≡ true → ⊥) → b ≡ false
is_false true h = absurd (h refl)
is_false false h = refl

-- Where a value is false, its negation is true.
pub not_true : (b : Bool) → b ≡ false → not b ≡ true
not_true true h = cc
not_true false h = refl

-- Where the negation of a value is true, the value is false.
pub true_not : (b : Bool) → not b ≡ true → b ≡ false
true_not true h = cc
true_not false h = refl

-- Where the test `nat_le` passes, the first number is at most the second.
pub le_is : (m n : ℕ) → nat_le m n ≡ true → m ≤ n
le_is m n h = grind (arith, nat_tests)

-- Where the first number is at most the second, the test `nat_le` passes.
pub is_le : (m n : ℕ) → m ≤ n → nat_le m n ≡ true
is_le m n h = grind (arith, nat_tests)

-- Where the test `nat_lt` passes, the first number is below the second.
pub lt_is : (m n : ℕ) → nat_lt m n ≡ true → m < n
lt_is m n h = grind (arith, nat_tests)

-- Where the first number is below the second, the test `nat_lt` passes.
pub is_lt : (m n : ℕ) → m < n → nat_lt m n ≡ true
is_lt m n h = grind (arith, nat_tests)

-- A comparison whose test for less is true is `Less`.
pub less_of : (r : Ordering) → is_less r ≡ true → r ≡ Less
less_of Less e = refl
less_of Equal e = absurd (true≢false (sym e))
less_of Greater e = absurd (true≢false (sym e))

-- A comparison that is less neither as it is nor reversed is `Equal`.
pub level_of : (r : Ordering) → is_less r ≡ false → is_less (ordering_reverse r) ≡ false → r ≡ Equal
level_of Less e f = absurd (true≢false e)
level_of Equal e f = refl
level_of Greater e f = absurd (true≢false f)

-- Of three orderings in sequence, it does not matter which two are combined first.
pub then_assoc : (a b c : Ordering)
    → ordering_then a (ordering_then b c) ≡ ordering_then (ordering_then a b) c
then_assoc Less b c = refl
then_assoc Equal b c = refl
then_assoc Greater b c = refl

-- Where the negation of a value is false, the value is true.
pub not_false : (b : Bool) → not b ≡ false → b ≡ true
not_false true h = refl
not_false false h = cc
