use Rattle.std.specs.Prelude.{ℕ, ◌≡◌, ◌<◌, nat_lt, not, Bool, true, false, IsTrue, List, [], ◌∷◌}
use Rattle.std.specs.Prelude.{◌++◌, length, ◌⊎◌, filter, count_by, if◌then◌else◌}
use Rattle.std.specs.Str.{bytes_eq}
use Rattle.lang_core.specs.Grammar.{is_star}

-- the first list is a front of the second
abbrev pub IsFront : List (List ℕ) → List (List ℕ) → Type 0
IsFront range tag = (rest : List (List ℕ)) × (tag ≡ range ++ rest)

-- RFC 4647 section 3.3.1: the range is the one subtag "*", or a front of the tag
abbrev pub Basic : List (List ℕ) → List (List ℕ) → Type 0
Basic range tag = (range ≡ (42 ∷ []) ∷ []) ⊎ IsFront range tag

-- the text goes on with a hyphen where the front ends
abbrev pub IsBeforeHyphen : List ℕ → List ℕ → Type 0
IsBeforeHyphen front text = (rest : List ℕ) × (text ≡ front ++ 45 ∷ rest)

-- RFC 4647 section 3.3.1, of texts: the range is "*", equals the tag, or is what comes before a
-- hyphen of it
abbrev pub BasicInBytes : List ℕ → List ℕ → Type 0
BasicInBytes range tag = (range ≡ 42 ∷ []) ⊎ ((range ≡ tag) ⊎ IsBeforeHyphen range tag)

-- The subtags that are wanted are among those that are given, in order. A given one may be skipped
-- where it has more than one character.
abbrev pub Embeds : List (List ℕ) → List (List ℕ) → Type 0
Embeds [] given = Unit {0}
Embeds (w ∷ wanted) [] = ⊥
Embeds (w ∷ wanted) (g ∷ given) =
    ((w ≡ g) × Embeds wanted given) ⊎ ((1 < length g) × Embeds (w ∷ wanted) given)

-- the subtags of a range other than "*"
abbrev pub without_stars : List (List ℕ) → List (List ℕ)
without_stars list = filter (λ s. not (is_star s)) list

-- RFC 4647 section 3.3.2
abbrev pub Extended : List (List ℕ) → List (List ℕ) → Type 0
Extended (r ∷ range) (t ∷ tag) = (IsTrue (is_star r) ⊎ (r ≡ t)) × Embeds (without_stars range) tag
Extended range tag = ⊥

-- RFC 4647 section 3.3.2, steps 3 and 4, from left to right
unfoldable pub greedy : List (List ℕ) → List (List ℕ) → Bool
greedy [] given = true
greedy (w ∷ wanted) [] = if is_star w then greedy wanted [] else false
greedy (w ∷ wanted) (g ∷ given) =
    if is_star w then
    greedy wanted (g ∷ given) else
    (if bytes_eq w g then
    greedy wanted given else (if nat_lt 1 (length g) then greedy (w ∷ wanted) given else false))

-- whether the first list is a front of the second
abbrev pub is_front : List (List ℕ) → List (List ℕ) → Bool
is_front [] tag = true
is_front (r ∷ range) [] = false
is_front (r ∷ range) (t ∷ tag) = if bytes_eq r t then is_front range tag else false

-- whether a range is the one subtag "*", which matches each tag (RFC 4647 section 3.3.1)
abbrev pub is_lone_star : List (List ℕ) → Bool
is_lone_star [] = false
is_lone_star (r ∷ []) = is_star r
is_lone_star (r ∷ s ∷ more) = false

-- RFC 4647 section 3.2: an extended range as a basic one
abbrev pub as_basic : List (List ℕ) → List (List ℕ)
as_basic [] = []
as_basic (r ∷ range) = if is_star r then r ∷ [] else without_stars (r ∷ range)

-- Basic, as a test
unfoldable pub is_basic_match : List (List ℕ) → List (List ℕ) → Bool
is_basic_match range tag = if is_lone_star range then true else is_front range tag

-- the number of subtags other than "*"
unfoldable pub specificity : List (List ℕ) → ℕ
specificity range = count_by (λ s. not (is_star s)) range
