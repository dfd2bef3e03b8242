-- Subtags as numbers, and the extended match of such numbers.
use Rattle.std.specs.Prelude.{ℕ, ◌+◌, ◌*◌, ◌==◌, ◌||◌, ◌&&◌, nat_lt, Bool, true, false, List}
use Rattle.std.specs.Prelude.{[], ◌∷◌, map, if◌then◌else◌}
use Rattle.lang_core.specs.Grammar.{is_run}
use Rattle.lang_core.specs.inner.LowerText.{is_nonzero_ascii}

-- one to eight ASCII bytes other than zero, as a subtag and "*" are
abbrev pub is_packable : List ℕ → Bool
is_packable subtag = is_run is_nonzero_ascii 1 8 subtag

-- the number whose digits to the base 256 are the bytes of a subtag, the first of them the lowest
abbrev pub packed : List ℕ → ℕ
packed [] = 0
packed (b ∷ subtag) = b + 256 * packed subtag

-- the numbers of subtags
abbrev pub all_packed : List (List ℕ) → List ℕ
all_packed subtags = map packed subtags

-- RFC 4647 section 3.3.2, steps 3 and 4, from left to right, of the numbers of subtags. Those of
-- one byte are below 256, and that of "*" is 42.
unfoldable pub greedy_packed : List ℕ → List ℕ → Bool
greedy_packed [] given = true
greedy_packed (w ∷ wanted) [] = if w == 42 then greedy_packed wanted [] else false
greedy_packed (w ∷ wanted) (g ∷ given) =
    if w == 42 then
    greedy_packed wanted (g ∷ given) else
    (if w == g then
    greedy_packed wanted given else
    (if nat_lt 255 g then greedy_packed (w ∷ wanted) given else false))

-- RFC 4647 section 3.3.2, of the numbers of subtags
abbrev pub extended_packed : List ℕ → List ℕ → Bool
extended_packed (r ∷ range) (t ∷ tag) = ((r == 42) || (r == t)) && greedy_packed range tag
extended_packed range tag = false
