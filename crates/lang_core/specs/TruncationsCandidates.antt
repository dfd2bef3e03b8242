use Rattle.std.specs.Prelude.{ℕ, ◌-◌, ◌||◌, not, zero, suc, Bool, true, List, [], ◌∷◌, length, take}
use Rattle.std.specs.Prelude.{filter, if◌then◌else◌}
use Rattle.std.specs.List.{list_all}
use Rattle.lang_core.specs.Grammar.{is_alphanum, is_run, is_star}

-- the fronts of n, n - 1, .. and 1 subtags
abbrev pub fronts_from : ℕ → List (List ℕ) → List (List (List ℕ))
fronts_from zero range = []
fronts_from (suc n) range = take (suc n) range ∷ fronts_from n range

-- the last of a list that begins so
abbrev pub last_of : List ℕ → List (List ℕ) → List ℕ
last_of s [] = s
last_of s (t ∷ more) = last_of t more

-- one letter or digit
abbrev pub is_single : List ℕ → Bool
is_single s = is_run is_alphanum 1 1 s

-- The last subtag is one letter or digit, or the only subtag is one letter, digit or "*".
-- Project rule: what would leave a single character alone leaves nothing.
unfoldable pub is_cut : List (List ℕ) → Bool
is_cut [] = true
is_cut (s ∷ []) = is_single s || is_star s
is_cut (s ∷ t ∷ more) = is_single (last_of t more)

-- RFC 4647 section 3.4: what is left as the range is truncated
unfoldable pub truncated : List (List ℕ) → List (List (List ℕ))
truncated range = filter (λ front. not (is_cut front)) (fronts_from (length range - 1) range)

-- the range and its truncations, longest first
abbrev pub candidates : List (List ℕ) → List (List (List ℕ))
candidates range = range ∷ truncated range

-- ---- the same in the steps of RFC 4647 section 3.4

-- without the last subtag
abbrev pub without_last : List (List ℕ) → List (List ℕ)
without_last [] = []
without_last (s ∷ []) = []
without_last (s ∷ t ∷ more) = s ∷ without_last (t ∷ more)

-- without the single letters and digits that are last
abbrev pub without_last_singles : List (List ℕ) → List (List ℕ)
without_last_singles [] = []
without_last_singles (s ∷ more) = if list_all is_single (s ∷ more) then
    [] else s ∷ without_last_singles more

-- one step: the last subtag goes, and the single letters and digits right before it go with it
abbrev pub shortened : List (List ℕ) → List (List ℕ)
shortened range = without_last_singles (without_last range)

-- a range and its truncations, or none where no subtag is left
abbrev pub candidates_left : List (List ℕ) → List (List (List ℕ))
candidates_left [] = []
candidates_left (s ∷ more) = candidates (s ∷ more)
