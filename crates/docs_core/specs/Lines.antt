-- The lines of an input, of which each is a document. Project rule.
use Rattle.std.specs.Prelude.{◌≡◌, ◌==◌, ◌+◌, ℕ, List, [], ◌∷◌, take, drop, position, MatchOption}
use Rattle.lang_core.specs.Text.{pieces_by}
use Rattle.docs_core.specs.declared.lines.Lines.{Lines}

-- what is before the first LF, and what is after it; without an LF the whole, and nothing
abbrev pub AreDocuments : List ℕ → List ℕ → List ℕ → Type 0
AreDocuments input first second = MatchOption (position (λ byte. byte == 10) input)
    ((first ≡ input) × (second ≡ []))
    (λ at. (first ≡ take at input) × (second ≡ drop (at + 1) input))

-- what is before the first LF, between it and the second, and after both
abbrev pub AreThreeDocuments : List ℕ → List ℕ → List ℕ → List ℕ → Type 0
AreThreeDocuments input first second third =
    (rest : List ℕ) × AreDocuments input first rest × AreDocuments rest second third

-- ---- any number of documents

-- the same without the last, where that is empty
abbrev pub without_empty_last : List (List ℕ) → List (List ℕ)
without_empty_last [] = []
without_empty_last ([] ∷ []) = []
without_empty_last (piece ∷ pieces) = piece ∷ without_empty_last pieces

-- the pieces between line feeds (10); a line feed ends the last line too, and may be missing there,
-- so no bytes are no lines
abbrev pub lines_of : List ℕ → List (List ℕ)
lines_of text = without_empty_last (pieces_by 10 text)

-- an empty one where there is none
abbrev pub one_at_least : List (List ℕ) → List (List ℕ)
one_at_least [] = [] ∷ []
one_at_least lines = lines

-- the documents of an input: its lines, and an empty document where it has no bytes
abbrev pub documents_of : List ℕ → List (List ℕ)
documents_of input = one_at_least (lines_of input)

-- the lines that are still to come
abbrev pub lines_left : Lines → List (List ℕ)
lines_left lines = lines_of lines.rest.now
