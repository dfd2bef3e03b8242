-- Truncation by its steps.
use Rattle.std.proofs.Common.{ℕ, ◌≡◌, ◌<◌, ◌+◌, ◌⊎◌, inl, inr, List, [], ◌∷◌, ◌++◌, Bool, true}
use Rattle.std.proofs.Common.{false, cond, length, refl, sym, ◌∙◌, ap, subst, arith}
use Rattle.std.specs.Prelude.{zero, suc, ◌&&◌}
use Rattle.std.specs.List.{list_all}
use Rattle.std.proofs.lemmas.List.Folds.{list_all-append}
use Rattle.lang_core.specs.Grammar.{BasicRange, basic_piece, are_allowed, is_star}
use Rattle.lang_core.specs.TruncationsCandidates.{is_single, is_cut, last_of, truncated, candidates}
use Rattle.lang_core.specs.TruncationsCandidates.{without_last, without_last_singles, shortened}
use Rattle.lang_core.specs.TruncationsCandidates.{candidates_left}
use Rattle.lang_core.proofs.Basics.{cases_bool, each_true, both, and_false}
use Rattle.lang_core.proofs.TruncationsLemmas.{truncated_one, truncated_push, is_cut_one}
use Rattle.lang_core.proofs.TruncationsLemmas.{is_cut_push}
use Rattle.lang_core.proofs.LookupTextLemmas.{no_star}
use Rattle.lang_core.proofs.Basics.{and_true}

-- ---- a list and its last subtag

snoc : (s : List ℕ) (more : List (List ℕ))
    → s ∷ more ≡ without_last (s ∷ more) ++ last_of s more ∷ []
snoc s [] = refl
snoc s (t ∷ more) = ap (λ (x : List (List ℕ)). s ∷ x) (snoc t more)

size_without : (s : List ℕ) (more : List (List ℕ)) → length (without_last (s ∷ more)) ≡ length more
size_without s [] = refl
size_without s (t ∷ more) = ap suc (size_without t more)

-- ---- the single letters and digits at the end

all_push : (front : List (List ℕ)) (last : List ℕ) (b : Bool) → is_single last ≡ b
    → list_all is_single (front ++ last ∷ []) ≡ list_all is_single front && b
all_push front last b e =
    list_all-append is_single front (last ∷ [])
    ∙ ap (λ (x : Bool). list_all is_single front && x) (and_true (is_single last) ∙ e)

single_push : (front : List (List ℕ)) (last : List ℕ) → is_single last ≡ true
    → without_last_singles (front ++ last ∷ []) ≡ without_last_singles front
single_push [] last e = let all : list_all is_single (last ∷ []) ≡ true =
    and_true (is_single last) ∙ e in rw all refl
single_push (s ∷ front) last e =
    let all : list_all is_single (s ∷ (front ++ last ∷ [])) ≡ list_all is_single (s ∷ front) =
    all_push (s ∷ front) last true e ∙ and_true (list_all is_single (s ∷ front)) in
    let rest : without_last_singles (front ++ last ∷ []) ≡ without_last_singles front =
    single_push front last e in
    ap (λ (b : Bool). cond b [] (s ∷ without_last_singles (front ++ last ∷ []))) all
    ∙ ap (λ (x : List (List ℕ)). cond (list_all is_single (s ∷ front)) [] (s ∷ x)) rest

other_push : (front : List (List ℕ)) (last : List ℕ) → is_single last ≡ false
    → without_last_singles (front ++ last ∷ []) ≡ front ++ last ∷ []
other_push [] last e = let all : list_all is_single (last ∷ []) ≡ false =
    and_true (is_single last) ∙ e in rw all refl
other_push (s ∷ front) last e =
    let all : list_all is_single (s ∷ (front ++ last ∷ [])) ≡ false =
    all_push (s ∷ front) last false e ∙ and_false (list_all is_single (s ∷ front)) in
    let rest : without_last_singles (front ++ last ∷ []) ≡ front ++ last ∷ [] =
    other_push front last e in
    ap (λ (b : Bool). cond b [] (s ∷ without_last_singles (front ++ last ∷ []))) all
    ∙ ap (λ (x : List (List ℕ)). s ∷ x) rest

left_push : (front : List (List ℕ)) (last : List ℕ)
    → candidates_left (front ++ last ∷ []) ≡ candidates (front ++ last ∷ [])
left_push [] last = refl
left_push (s ∷ front) last = refl

-- ---- the first subtag is no "*"

abbrev BeginsNamed : List (List ℕ) → Type 0
BeginsNamed [] = Unit {0}
BeginsNamed (s ∷ more) = is_star s ≡ false

begins : (s : List ℕ) (more : List (List ℕ)) → is_star s ≡ false
    → BeginsNamed (without_last (s ∷ more))
begins s [] e = tt
begins s (t ∷ more) e = e

-- ---- one step

-- what comes of a list from which the last subtag is gone
abbrev Steps : List (List ℕ) → Type 0
Steps front =
    cond (is_cut front) (truncated front) (candidates front)
    ≡ candidates_left (without_last_singles front)

step_one : (last : List ℕ) → is_star last ≡ false → Steps (last ∷ [])
step_one last named = elim (cases_bool (is_single last)) [
  | inl e ↦ (let cut : is_cut (last ∷ []) ≡ true = is_cut_one last ∙ rw e refl in
      let none : without_last_singles (last ∷ []) ≡ [] = single_push [] last e in
      rw (cut, none) (truncated_one last))
  | inr e ↦ (let cut : is_cut (last ∷ []) ≡ false = is_cut_one last ∙ rw (e, named) refl in
      let all : without_last_singles (last ∷ []) ≡ last ∷ [] = other_push [] last e in
      rw (cut, all) refl)
]

step_push : (front : List (List ℕ)) (last : List ℕ) → 0 < length front → Steps front
    → Steps (front ++ last ∷ [])
step_push front last some steps = elim (cases_bool (is_single last)) [
  | inl e ↦ (let cut : is_cut (front ++ last ∷ []) ≡ true = is_cut_push front last some ∙ e in
      rw (cut, single_push front last e) (truncated_push front last some ∙ steps))
  | inr e ↦ (let cut : is_cut (front ++ last ∷ []) ≡ false = is_cut_push front last some ∙ e in
      rw (cut, other_push front last e) (sym (left_push front last)))
]

stepped_push : (front : List (List ℕ)) (last : List ℕ) → BeginsNamed (front ++ last ∷ [])
    → (0 < length front → Steps front) → Steps (front ++ last ∷ [])
stepped_push [] last named steps = step_one last named
stepped_push (s ∷ front) last named steps =
    step_push (s ∷ front) last (omega arith) (steps (omega arith))

stepped : (n : ℕ) (front : List (List ℕ)) → length front ≡ n → BeginsNamed front → Steps front
unfolding is_cut truncated
stepped n [] size named = refl
stepped zero (s ∷ more) size named = absurd (omega arith)
stepped (suc n) (s ∷ more) size named =
    subst Steps (sym (snoc s more))
    (stepped_push (without_last (s ∷ more)) (last_of s more)
    (subst BeginsNamed (snoc s more) named)
    (λ _. stepped n (without_last (s ∷ more)) (let m = size_without s more in omega arith)
    (begins s more named)))

truncated_step : (front : List (List ℕ)) (last : List ℕ) → BeginsNamed front
    → truncated (front ++ last ∷ []) ≡ candidates_left (without_last_singles front)
truncated_step [] last named = truncated_one last
truncated_step (s ∷ front) last named =
    truncated_push (s ∷ front) last (omega arith)
    ∙ stepped (length (s ∷ front)) (s ∷ front) refl named

-- ---- basic ranges

first_named : (s : List ℕ) (more : List (List ℕ)) → BasicRange (s ∷ more)
    → BeginsNamed (without_last (s ∷ more))
first_named s more (inl e) = (let none : more ≡ [] = cc in rw none tt)
first_named s more (inr h) =
    begins s more (no_star 0 s (each_true (basic_piece 0 s) (are_allowed basic_piece 1 more) h).0)

-- The candidates of a basic range are the range and the candidates of what one step of truncation
-- leaves of it.
pub by_steps : (range : List (List ℕ)) → BasicRange range
    → candidates range ≡ range ∷ candidates_left (shortened range)
by_steps [] (inl e) = cc
by_steps [] (inr h) = cc
by_steps (s ∷ more) h =
    let step : truncated (s ∷ more) ≡ candidates_left (shortened (s ∷ more)) =
    ap truncated (snoc s more)
    ∙ truncated_step (without_last (s ∷ more)) (last_of s more) (first_named s more h) in
    ap (λ (x : List (List (List ℕ))). (s ∷ more) ∷ x) step

allowed_without : (from : ℕ) (list : List (List ℕ)) → are_allowed basic_piece from list ≡ true
    → are_allowed basic_piece from (without_last list) ≡ true
allowed_without from [] h = refl
allowed_without from (s ∷ []) h = refl
allowed_without from (s ∷ t ∷ more) h =
    let parts = each_true (basic_piece from s) (are_allowed basic_piece (from + 1) (t ∷ more)) h in
    both (basic_piece from s) (are_allowed basic_piece (from + 1) (without_last (t ∷ more))) parts.0
    (allowed_without (from + 1) (t ∷ more) parts.1)

allowed_singles : (from : ℕ) (list : List (List ℕ)) → are_allowed basic_piece from list ≡ true
    → are_allowed basic_piece from (without_last_singles list) ≡ true
allowed_singles from [] h = refl
allowed_singles from (s ∷ more) h =
    let parts = each_true (basic_piece from s) (are_allowed basic_piece (from + 1) more) h in
    elim (cases_bool (list_all is_single (s ∷ more))) [
      | inl e ↦ rw e refl
      | inr e ↦
          rw e (both (basic_piece from s)
          (are_allowed basic_piece (from + 1) (without_last_singles more)) parts.0
          (allowed_singles (from + 1) more parts.1))
    ]

none_or_basic : (list : List (List ℕ)) → are_allowed basic_piece 0 list ≡ true
    → (list ≡ []) ⊎ BasicRange list
none_or_basic [] h = inl refl
none_or_basic (s ∷ more) h = inr (inr h)

-- One step of truncation leaves nothing of a basic range, or a basic range.
pub shortened_basic : (range : List (List ℕ)) → BasicRange range
    → (shortened range ≡ []) ⊎ BasicRange (shortened range)
shortened_basic range (inl e) = inl (ap shortened e)
shortened_basic [] (inr h) = cc
shortened_basic (s ∷ more) (inr h) =
    none_or_basic (shortened (s ∷ more))
    (allowed_singles 0 (without_last (s ∷ more)) (allowed_without 0 (s ∷ more) h))
