-- What cutting a text at its last hyphen does to its pieces and truncations.
use Rattle.std.proofs.Common.{ℕ, ◌≡◌, ◌≤◌, ◌<◌, ◌+◌, ◌-◌, inl, inr, List, [], ◌∷◌, ◌++◌, true}
use Rattle.std.proofs.Common.{false, cond, length, take, drop, get_or, refl, sym, ◌∙◌, ap, arith}
use Rattle.std.proofs.Common.{length-append, length-drop, take-append-drop, drop-cons, add-one}
use Rattle.std.proofs.lemmas.List.{get_or-drop, take-append-le, take_all}
use Rattle.std.specs.Prelude.{not, zero, suc, filter, ◌||◌}
use Rattle.lang_core.specs.Text.{pieces}
use Rattle.lang_core.specs.Grammar.{is_star}
use Rattle.lang_core.specs.TruncationsCandidates.{fronts_from, is_single, is_cut, truncated}
use Rattle.lang_core.specs.TruncationsCandidates.{candidates}
use Rattle.lang_core.specs.TruncationsCandidates.{last_of}
use Rattle.lang_core.proofs.Basics.{cases_bool}
use Rattle.lang_core.proofs.PiecesLemmas.{pieces_join, pieces_no_hyphen}

-- The pieces of a text are those before its last hyphen, and then what comes after it.
pub pieces_last : (text : List ℕ) (at : ℕ) → at < length text → get_or text at 0 ≡ 45
    → ((k : ℕ) → at < k → k < length text → get_or text k 0 ≡ 45 → ⊥)
    → pieces text ≡ pieces (take at text) ++ drop (at + 1) text ∷ []
pieces_last text at lt h n =
    let joined : take at text ++ drop at text ≡ text = take-append-drop at text in
    let rest : drop at text ≡ get_or text at 0 ∷ drop (at + 1) text =
    rw (add-one, drop-cons text at 0) refl in
    let whole : text ≡ take at text ++ 45 ∷ drop (at + 1) text = cc in
    ap pieces whole
    ∙ (pieces_join (take at text) (drop (at + 1) text)
    ∙ ap (λ (r : List (List ℕ)). pieces (take at text) ++ r)
    (pieces_no_hyphen (drop (at + 1) text)
    (λ k lt2 e. let size : length (drop (at + 1) text) ≡ length text - (at + 1) =
    length-drop (at + 1) text in
    n (at + 1 + k) (omega arith) (omega arith) (sym (get_or-drop (at + 1) text k 0) ∙ e))))

-- ---- truncations

front_of : (n : ℕ) (front : List (List ℕ)) (last : List ℕ) → n ≤ length front
    → fronts_from n (front ++ last ∷ []) ≡ fronts_from n front
front_of zero front last h = refl
front_of (suc n) front last h =
    let first : take (suc n) (front ++ last ∷ []) ≡ take (suc n) front =
    take-append-le (suc n) front (last ∷ []) h in
    let rest = front_of n front last (omega arith) in
    cc

-- A range of one subtag has no truncations.
pub truncated_one : (s : List ℕ) → truncated (s ∷ []) ≡ []
unfolding truncated
truncated_one s = refl

filter_step : (front : List (List ℕ)) (more : List (List (List ℕ)))
    → filter (λ x. not (is_cut x)) (front ∷ more)
    ≡ cond (is_cut front) (filter (λ x. not (is_cut x)) more)
    (front ∷ filter (λ x. not (is_cut x)) more)
filter_step front more =
    elim (cases_bool (is_cut front)) [ inl e ↦ rw (e) refl | inr e ↦ rw (e) refl ]

pushed : (m : ℕ) (front : List (List ℕ)) (last : List ℕ) → length front ≡ suc m
    → filter (λ x. not (is_cut x)) (fronts_from (suc m) (front ++ last ∷ []))
    ≡ cond (is_cut front) (filter (λ x. not (is_cut x)) (fronts_from m front))
    (front ∷ filter (λ x. not (is_cut x)) (fronts_from m front))
pushed m front last e =
    let first : take (suc m) (front ++ last ∷ []) ≡ front =
    take-append-le (suc m) front (last ∷ []) (omega arith)
    ∙ take_all (suc m) front (omega arith) in
    let rest : fronts_from m (front ++ last ∷ []) ≡ fronts_from m front =
    front_of m front last (omega arith) in
    ap (λ (x : List (List ℕ)). filter (λ y. not (is_cut y))
    (x ∷ fronts_from m (front ++ last ∷ []))) first
    ∙ (ap (λ (r : List (List (List ℕ))). filter (λ y. not (is_cut y)) (front ∷ r)) rest
    ∙ filter_step front (fronts_from m front))

-- The truncations of a range are the range without its last subtag, unless truncation skips that
-- one, and then the truncations of that shorter range.
pub truncated_push : (front : List (List ℕ)) (last : List ℕ) → 0 < length front
    → truncated (front ++ last ∷ []) ≡ cond (is_cut front) (truncated front) (candidates front)
unfolding truncated
truncated_push [] last n = absurd (omega arith)
truncated_push (s ∷ front) last n =
    let long : length ((s ∷ front) ++ last ∷ []) - 1 ≡ suc (length front) =
    (let size : length ((s ∷ front) ++ last ∷ []) ≡ length (s ∷ front) + 1 =
    simp length-append in omega arith) in
    let short : length (s ∷ front) - 1 ≡ length front = omega arith in
    rw (long, short) (pushed (length front) (s ∷ front) last (omega arith))

-- ---- the last subtag

-- Truncation skips a range of one subtag just where it is a single letter or digit, or "*".
pub is_cut_one : (s : List ℕ) → is_cut (s ∷ []) ≡ (is_single s || is_star s)
unfolding is_cut
is_cut_one s = refl

last_push : (s : List ℕ) (more : List (List ℕ)) (last : List ℕ)
    → last_of s (more ++ last ∷ []) ≡ last
last_push s [] last = refl
last_push s (t ∷ more) last = last_push t more last

-- Truncation skips a range of two or more subtags just where the last is a single letter or digit.
pub is_cut_push : (front : List (List ℕ)) (last : List ℕ) → 0 < length front
    → is_cut (front ++ last ∷ []) ≡ is_single last
unfolding is_cut
is_cut_push [] last n = absurd (omega arith)
is_cut_push (s ∷ []) last n = refl
is_cut_push (s ∷ t ∷ more) last n = ap is_single (last_push t more last)

-- Where truncation does not skip the range without its last subtag, the truncations are that
-- shorter range and its truncations.
pub truncated_stands : (range front : List (List ℕ)) (last : List ℕ) → range ≡ front ++ last ∷ []
    → 0 < length front → is_cut front ≡ false → truncated range ≡ candidates front
truncated_stands range front last e n cut =
    ap truncated e ∙ (truncated_push front last n ∙ (rw cut refl))

-- Where truncation skips the range without its last subtag, the truncations are those of that
-- shorter range.
pub truncated_skips : (range front : List (List ℕ)) (last : List ℕ) → range ≡ front ++ last ∷ []
    → 0 < length front → is_cut front ≡ true → truncated range ≡ truncated front
truncated_skips range front last e n cut =
    ap truncated e ∙ (truncated_push front last n ∙ (rw cut refl))
