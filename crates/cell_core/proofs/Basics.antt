-- Small facts on tests, orderings, options and results.
use Rattle.std.proofs.Common.{◌≡◌, Bool, true, false, Some, None, Result, Ok, Err, OnErr, sym, refl}
use Rattle.std.proofs.Common.{true≢false}
use Rattle.std.specs.Prelude.{T, ◌&&◌}
use Rattle.std.specs.declared.cmp.Ordering.{Ordering}
use Rattle.std.specs.declared.cmp.Ordering.TheVariants.{Less, Equal, Greater}
use Rattle.std.specs.Ordering.{is_lt, is_eq, is_gt}

-- Where `s && t` holds, the first holds.
pub first_part : (s t : Bool) → T (s && t) → T s
first_part true t h = tt
first_part false t h = absurd h

-- Where `s && t` holds, the second holds.
pub second_part : (s t : Bool) → T (s && t) → T t
second_part true t h = h
second_part false t h = absurd h

-- Where both hold, `s && t` holds.
pub both_parts : (s t : Bool) → T s → T t → T (s && t)
both_parts true t h k = k
both_parts false t h k = absurd h

-- An ordering that is tested to be less is `Less`.
pub less_than : (r : Ordering) → T (is_lt r) → r ≡ Less
less_than Less h = refl
less_than Equal h = absurd h
less_than Greater h = absurd h

-- A value that is present is not absent.
pub some_not_none : {X : Type 0} (x : X) → Some x ≡ None → ⊥
some_not_none x e = cc

-- An ordering that is tested to be equal is `Equal`.
pub tied_order : (r : Ordering) → is_eq r ≡ true → r ≡ Equal
tied_order Less e = absurd (true≢false (sym e))
tied_order Equal e = refl
tied_order Greater e = absurd (true≢false (sym e))

-- An ordering that is tested to be greater is `Greater`.
pub is_greater : (r : Ordering) → is_gt r ≡ true → r ≡ Greater
is_greater Less e = absurd (true≢false (sym e))
is_greater Equal e = absurd (true≢false (sym e))
is_greater Greater e = refl

-- what holds at an error holds whatever the result
pub on_err_always : {T E P : Type 0} (r : Result T E) → P → OnErr r P
on_err_always (Ok x) p = tt
on_err_always (Err e) p = p
