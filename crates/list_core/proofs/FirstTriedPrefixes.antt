-- Fronts of a text: what comes before a hyphen, or the whole.
use Rattle.std.proofs.Common.{ℕ, ◌≡◌, ◌<◌, ◌+◌, ◌⊎◌, List, [], ◌∷◌, ◌++◌, inl}
use Rattle.std.proofs.Common.{inr, refl, sym, ◌∙◌, ap, arith, length, get_or, take, drop}
use Rattle.std.proofs.Common.{append-nil, length-append, drop-cons, add-one}
use Rattle.std.proofs.lemmas.List.{take-append-drop, take-append-le, take_all, get_or-append-add}
use Rattle.lang_core.specs.Text.{pieces_by, pieces, joined}
use Rattle.lang_core.specs.Matching.{IsFront}
use Rattle.lang_core.proofs.MatchingFrontsLemmas.{joined_some}
use Rattle.lang_core.proofs.PiecesLemmas.{joined-pieces, pieces_join, some_pieces}

-- The text "*" has the one piece "*".
pub star_pieces : pieces (42 ∷ []) ≡ (42 ∷ []) ∷ []
unfolding pieces_by
star_pieces = refl

-- ---- texts and their pieces

-- the text is the front, or goes on after a hyphen
abbrev pub IsTextFront : List ℕ → List ℕ → Type 0
IsTextFront front text = (text ≡ front) ⊎ ((rest : List ℕ) × (text ≡ front ++ 45 ∷ rest))

-- A text that is the front, or goes on after it with a hyphen, has the front's subtags first.
pub front_of_text : (front text : List ℕ) → IsTextFront front text
    → IsFront (pieces front) (pieces text)
front_of_text front text (inl e) = ([], ap pieces e ∙ sym (append-nil (pieces front)))
front_of_text front text (inr r) = (pieces r.0, ap pieces r.1 ∙ pieces_join front r.0)

text_on : (front text : List ℕ) (rest : List (List ℕ)) → pieces text ≡ pieces front ++ rest
    → IsTextFront front text
text_on front text [] e =
    inl (sym (joined-pieces text)
    ∙ (ap joined (e ∙ append-nil (pieces front)) ∙ joined-pieces front))
text_on front text (s ∷ rest) e =
    inr (
      joined (s ∷ rest),
      sym (joined-pieces text)
          ∙ (ap joined e
          ∙ (joined_some (pieces front) s rest (some_pieces front)
          ∙ ap (λ (x : List ℕ). x ++ 45 ∷ joined (s ∷ rest)) (joined-pieces front))),
    )

-- A text that has the front's subtags first is the front, or goes on after it with a hyphen.
pub text_of_front : (front text : List ℕ) → IsFront (pieces front) (pieces text)
    → IsTextFront front text
text_of_front front text f = text_on front text f.0 f.1

-- ---- where a front ends

-- A front is the whole text, or has fewer bytes.
pub front_within : (front text : List ℕ) → IsTextFront front text
    → (text ≡ front) ⊎ (length front < length text)
front_within front text (inl e) = inl e
front_within front text (inr r) =
    inr (let size : length text ≡ length (front ++ 45 ∷ r.0) = ap length r.1 in
    longer front r.0 text size) where
      longer : (front rest text : List ℕ) → length text ≡ length (front ++ 45 ∷ rest)
          → length front < length text
      longer front rest text e = let size = length-append front (45 ∷ rest) in omega arith

-- A front that is shorter than the text is that many bytes of it, and a hyphen comes next.
pub front_is_take : (front text : List ℕ) (at : ℕ) → length front ≡ at → at < length text
    → IsTextFront front text → (front ≡ take at text) × (get_or text at 0 ≡ 45)
front_is_take front text at n low (inl e) =
    absurd (let size : length text ≡ length front = ap length e in omega arith)
front_is_take front text at n low (inr r) =
    let front_part : take at (front ++ 45 ∷ r.0) ≡ take at front =
    take-append-le at front (45 ∷ r.0) (omega arith) in
    let all : take at front ≡ front = take_all at front (omega arith) in
    let byte : get_or (front ++ 45 ∷ r.0) (length front + 0) 0 ≡ 45 =
    get_or-append-add front (45 ∷ r.0) 0 0 in (
      sym all ∙ (sym front_part ∙ ap (take at) (sym r.1)),
      ap (λ (x : List ℕ). get_or x at 0) r.1
          ∙ (ap (λ (k : ℕ). get_or (front ++ 45 ∷ r.0) k 0) (omega arith) ∙ byte),
    )

-- the bytes before a hyphen are a front
pub take_is_front : (text : List ℕ) (at : ℕ) → at < length text → get_or text at 0 ≡ 45
    → IsTextFront (take at text) text
take_is_front text at low e =
    let rest : drop at text ≡ get_or text at 0 ∷ drop (at + 1) text =
    rw (add-one, drop-cons text at 0) refl in
    inr (
      drop (at + 1) text,
      sym (take-append-drop at text)
          ∙ (ap (λ (x : List ℕ). take at text ++ x) rest
          ∙ ap (λ (b : ℕ). take at text ++ b ∷ drop (at + 1) text) e),
    )
