-- The first line of a text, and those after it.
use Rattle.std.proofs.Common.{◌≡◌, ◌∙◌, ◌<◌, ◌≤◌, ◌==◌, ◌+◌, ℕ, List, [], ◌∷◌, ap, arith, cond}
use Rattle.std.proofs.Common.{drop, false, length, None, refl, Some, subst, suc, sym}
use Rattle.std.proofs.Common.{take, true}
use Rattle.std.specs.Prelude.{MatchOption, Option, position}
use Rattle.std.specs.List.{onto_first, slice_split}
use Rattle.lang_core.proofs.PiecesLemmas.{cut_of, pieces_whole}
use Rattle.lang_core.specs.Text.{pieces_by}
use Rattle.docs_core.specs.Lines.{AreDocuments, documents_of, lines_of, one_at_least}
use Rattle.docs_core.specs.Lines.{without_empty_last}

-- there is always a piece
onto_some : (b : ℕ) (parts : List (List ℕ)) → (first : List ℕ) × (rest : List (List ℕ))
    × (onto_first b parts ≡ first ∷ rest)
onto_some b [] = (b ∷ [], [], refl)
onto_some b (p ∷ parts) = (b ∷ p, parts, refl)

some_piece : (text : List ℕ) → (first : List ℕ) × (rest : List (List ℕ))
    × (pieces_by 10 text ≡ first ∷ rest)
unfolding pieces_by
some_piece [] = ([], [], refl)
some_piece (b ∷ text) =
    elim (b == 10) as (λ t. (first : List ℕ) × (rest : List (List ℕ))
    × (cond t ([] ∷ slice_split (λ x. x == 10) text)
    (onto_first b (slice_split (λ x. x == 10) text)) ≡ first ∷ rest)) [
      | true ↦ ([], slice_split (λ x. x == 10) text, refl)
      | false ↦ onto_some b (slice_split (λ x. x == 10) text)
    ]

first_stays : (first next : List ℕ) (rest : List (List ℕ))
    → without_empty_last (first ∷ next ∷ rest) ≡ first ∷ without_empty_last (next ∷ rest)
first_stays [] next rest = refl
first_stays (b ∷ first) next rest = refl

whole_stays : (text : List ℕ) → 0 < length text → without_empty_last (text ∷ []) ≡ text ∷ []
whole_stays [] some = absurd (omega arith)
whole_stays (b ∷ text) some = refl

-- An empty text has no line.
pub no_lines : (text : List ℕ) → length text ≡ 0 → lines_of text ≡ []
unfolding pieces_by
no_lines [] none = refl
no_lines (b ∷ text) none = absurd (omega arith)

-- The two documents of a text are its first line and the text of the others.
pub line_cut : (text line rest : List ℕ) → 0 < length text → AreDocuments text line rest
    → lines_of text ≡ line ∷ lines_of rest
line_cut text line rest some are = by_place (position (λ b. b == 10) text) refl are
  where
    by_place : (o : Option ℕ) → position (λ b. b == 10) text ≡ o
        → MatchOption o ((line ≡ text) × (rest ≡ []))
        (λ at. (line ≡ take at text) × (rest ≡ drop (at + 1) text))
        → lines_of text ≡ line ∷ lines_of rest
    by_place None found (is, none) =
        ap without_empty_last (pieces_whole 10 text found) ∙ whole_stays text some
        ∙ (λ i. sym is i ∷ sym (no_lines rest (ap length none)) i)
    by_place (Some at) found (is, left) =
        let next = some_piece rest in
        let pieces : pieces_by 10 text ≡ line ∷ pieces_by 10 rest =
        cut_of 10 text text at refl (sym found)
        ∙ (λ i. sym is i ∷ pieces_by 10 (sym left i)) in
        ap without_empty_last (pieces ∙ ap (λ (ps : List (List ℕ)). line ∷ ps) next.2)
        ∙ first_stays line next.0 next.1
        ∙ ap (λ (ps : List (List ℕ)). line ∷ without_empty_last ps) (sym next.2)

-- The two documents of an input are the first of its documents and the text of the others.
pub document_cut : (input first rest : List ℕ) → AreDocuments input first rest
    → documents_of input ≡ first ∷ lines_of rest
document_cut [] first rest (is, none) =
    ap one_at_least (no_lines [] refl)
    ∙ (λ i. sym is i ∷ sym (no_lines rest (ap length none)) i)
document_cut (b ∷ input) first rest are =
    ap one_at_least (line_cut (b ∷ input) first rest (omega arith) are)

-- ---- how many lines there are

fewer : (first : List ℕ) (rest : List (List ℕ))
    → length (without_empty_last rest) ≤ length (without_empty_last (first ∷ rest))
fewer [] [] = omega arith
fewer (b ∷ first) [] = omega arith
fewer [] (next ∷ rest) = omega arith
fewer (b ∷ first) (next ∷ rest) = omega arith

after_byte : (b : ℕ) (first : List ℕ) (rest : List (List ℕ)) (n : ℕ)
    → length (without_empty_last (first ∷ rest)) ≤ n
    → length (without_empty_last (onto_first b (first ∷ rest))) ≤ suc n
after_byte b first rest n few = let less = fewer first rest in omega (arith, few, less)

after_feed : (first : List ℕ) (rest : List (List ℕ)) (n : ℕ)
    → length (without_empty_last (first ∷ rest)) ≤ n
    → length (without_empty_last ([] ∷ first ∷ rest)) ≤ suc n
after_feed first rest n few = omega (arith, few)

-- A text has no more lines than bytes.
pub few_lines : (text : List ℕ) → length (lines_of text) ≤ length text
unfolding pieces_by
few_lines [] = omega arith
few_lines (b ∷ text) =
    let some = some_piece text in
    let split : slice_split (λ x. x == 10) text ≡ some.0 ∷ some.1 = some.2 in
    let few : length (without_empty_last (some.0 ∷ some.1)) ≤ length text =
    subst (λ (ps : List (List ℕ)). length (without_empty_last ps) ≤ length text) split
    (few_lines text) in
    elim (b == 10) as (λ t. length (without_empty_last
    (cond t ([] ∷ slice_split (λ x. x == 10) text)
    (onto_first b (slice_split (λ x. x == 10) text)))) ≤ suc (length text)) [
      | true ↦ rw split (after_feed some.0 some.1 (length text) few)
      | false ↦ rw split (after_byte b some.0 some.1 (length text) few)
    ]

-- the first line of a text, and the lines after it
pub ruleset cuts = (no_lines, line_cut)
