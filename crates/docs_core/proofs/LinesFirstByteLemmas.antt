-- The first byte that passes a test, as its place and as a position.
use Rattle.std.proofs.Common.{◌≡◌, ◌∙◌, ◌<◌, ℕ, Bool, List, ap, arith, cond, false, get_or}
use Rattle.std.proofs.Common.{length, rules, sym, true}
use Rattle.std.specs.Prelude.{None, Option, Some, nat_lt, position}
use Rattle.std.specs.List.{position_or_len}
use Rattle.std.proofs.lemmas.List.Sums.{position_or_len_is}
use Rattle.memchr.specs.Find.{IsFirstByte}
use Rattle.lang_core.proofs.Basics.{is_false as not_true}

-- the position by the place of the first that passes
at_place : (test : ℕ → Bool) (bytes : List ℕ) (k : ℕ) → position_or_len test bytes ≡ k
    → position test bytes ≡ cond (nat_lt k (length bytes)) (Some k) None
at_place test bytes k is = ap (λ n. cond (nat_lt n (length bytes)) (Some n) None) is

within : (k n : ℕ) → k < n → cond (nat_lt k n) (Some k) None ≡ Some k
within k n lt =
    let below : nat_lt k n ≡ true = search (rules, lt) in ap (λ b. cond b (Some k) None) below

past : (n : ℕ) → cond (nat_lt n n) (Some n) None ≡ None
past n =
    let over : nat_lt n n ≡ false = search rules in ap (λ b. cond b (Some n) None) over

-- The first place is the position.
pub first_is_position : (test : ℕ → Bool) (bytes : List ℕ) (r : Option ℕ)
    → IsFirstByte test bytes r → r ≡ position test bytes
first_is_position test bytes None none =
    sym (at_place test bytes (length bytes)
    (position_or_len_is test bytes (length bytes) 0 (omega arith)
    (λ k below. not_true (test (get_or bytes k 0)) (none k (omega arith) below))
    (λ below. absurd (omega (arith, below))))
    ∙ past (length bytes))
first_is_position test bytes (Some k) (place, at) =
    sym (at_place test bytes k
    (position_or_len_is test bytes k 0 (omega (arith, place.high))
    (λ j below. not_true (test (get_or bytes j 0)) (place.before j (omega arith) below))
    (λ _. at))
    ∙ within k (length bytes) place.high)
