-- The texts of labels, by their bytes.
use Rattle.std.proofs.Common.{◌≡◌, ℕ, ◌+◌, ◌≤◌, Bool, true, false, cond, List, [], ◌∷◌, ◌&&◌}
use Rattle.std.proofs.Common.{length, get_or, map, All, Some, None, ap, sym, refl, nat_eq, arith}
use Rattle.std.proofs.lemmas.Bool.Decides.{nat_tests}
use Rattle.std.proofs.lemmas.List.Sums.{fails_before_first}
use Rattle.std.specs.Prelude.{not, nat_lt}
use Rattle.std.specs.List.{position, position_or_len}
use Rattle.std.specs.Cmp.Lexicographic.{pointwise, pointwise_decides, bytes_decides}
use Rattle.std.specs.String.{string_eq, string_bytes}
use Rattle.std.specs.declared.string.String.{String}
use Rattle.cell_core.specs.Label.{texts_of, is_too_long}

-- texts are compared by their bytes
pub pointwise-texts_of : {Z : Type 0} (xs ys : List (String Z))
    → pointwise string_eq xs ys ≡ pointwise (pointwise nat_eq) (texts_of xs) (texts_of ys)
pointwise-texts_of [] [] = refl
pointwise-texts_of [] (y ∷ ys) = refl
pointwise-texts_of (x ∷ xs) [] = refl
pointwise-texts_of (x ∷ xs) (y ∷ ys) = ap (λ b. string_eq x y && b) (pointwise-texts_of xs ys)

-- lists of texts are the same where the comparison says so
pub texts_decides : (xs ys : List (List ℕ))
    → (pointwise (pointwise nat_eq) xs ys ≡ true → xs ≡ ys)
    × (xs ≡ ys → pointwise (pointwise nat_eq) xs ys ≡ true)
texts_decides = pointwise_decides bytes_decides

position_or_len-map : {X Y : Type 0} (p : Y → Bool) (f : X → Y) (xs : List X)
    → position_or_len (λ x. p (f x)) xs ≡ position_or_len p (map f xs)
position_or_len-map p f [] = refl
position_or_len-map p f (x ∷ xs) =
    ap (λ n. cond (not (p (f x))) (1 + n) 0) (position_or_len-map p f xs)

length-mapped : {X Y : Type 0} (f : X → Y) (xs : List X) → length xs ≡ length (map f xs)
length-mapped f [] = refl
length-mapped f (x ∷ xs) = omega (arith, length-mapped f xs)

-- The first element that is mapped to one that passes a test has the place of the first that passes
-- in the mapped list.
pub position-map : {X Y : Type 0} (p : Y → Bool) (f : X → Y) (xs : List X)
    → position (λ x. p (f x)) xs ≡ position p (map f xs)
position-map p f xs = λ i. let at = position_or_len-map p f xs i in
    cond (nat_lt at (length-mapped f xs i)) (Some at) None

-- Taking the bytes of each text leaves the number of texts.
pub length-texts_of : {Z : Type 0} (xs : List (String Z)) → length (texts_of xs) ≡ length xs
length-texts_of xs = sym (length-mapped string_bytes xs)

none_passes : {X : Type 0} (p : X → Bool) (xs : List X) → position p xs ≡ None
    → length xs ≤ position_or_len p xs
none_passes p xs =
    elim (nat_lt (position_or_len p xs) (length xs)) as
    (λ t. nat_lt (position_or_len p xs) (length xs) ≡ t
    → cond t (Some (position_or_len p xs)) None ≡ None → length xs ≤ position_or_len p xs) [
      | true ↦ λ e none. absurd (cc)
      | false ↦ λ e none. grind (arith, nat_tests)
    ] refl

short_enough : (text : List ℕ) → is_too_long text ≡ false → length text ≤ 65535
short_enough text h = grind (arith, nat_tests)

-- where no text is too long, all are short
pub all_short : (texts : List (List ℕ)) → position is_too_long texts ≡ None
    → All (λ text. length text ≤ 65535) texts
all_short texts none =
    λ k d lt.
    short_enough (get_or texts k d)
    (fails_before_first is_too_long texts k d (omega (arith, none_passes is_too_long texts none)))
