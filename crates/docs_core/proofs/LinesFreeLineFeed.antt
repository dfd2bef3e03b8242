-- A line feed after a text changes nothing in what it reads as.
use Rattle.std.proofs.Common.{◌∙◌, ◌↔◌, ℕ, List, [], ◌∷◌, ◌++◌, length, refl, sym, subst, arith}
use Rattle.std.specs.Prelude.{IsUtf8}
use Rattle.std.proofs.lemmas.List.{take_at}
use Rattle.std.proofs.lemmas.Str.{IsCharBoundary-at_seam, IsUtf8-append, IsUtf8-from_ascii}
use Rattle.std.proofs.lemmas.Str.{IsUtf8-take}
use Rattle.std.proofs.lemmas.Str.Ascii.{IsAscii-cons, IsAscii-nil}
use Rattle.serde_json.specs.Data.{Data}
use Rattle.json_docs.specs.FaultChecks.{AreJson, Check}
use Rattle.row_docs.specs.Reading.{Reads}
use Rattle.json_docs.proofs.TextLineFeed.{read-line_feed}

feed : IsUtf8 (10 ∷ [])
feed = IsUtf8-from_ascii (10 ∷ []) (IsAscii-cons 10 [] (omega arith) IsAscii-nil)

without : (bytes : List ℕ) → IsUtf8 (bytes ++ 10 ∷ []) → IsUtf8 bytes
without bytes utf8 =
    subst IsUtf8 (take_at bytes (10 ∷ []) (length bytes) refl)
    (IsUtf8-take (bytes ++ 10 ∷ []) (length bytes) utf8
    (IsCharBoundary-at_seam (bytes ++ 10 ∷ []) bytes (10 ∷ []) refl feed))

json_without : (bytes : List ℕ) (d : Data) → AreJson (bytes ++ 10 ∷ []) d → AreJson bytes d
json_without bytes d json = (without bytes json.0, sym (read-line_feed bytes) ∙ json.1)

json_with : (bytes : List ℕ) (d : Data) → AreJson bytes d → AreJson (bytes ++ 10 ∷ []) d
json_with bytes d json = (IsUtf8-append bytes (10 ∷ []) json.0 feed, read-line_feed bytes ∙ json.1)

-- what a text with a line feed after it reads as, it reads as without
pub free : {X : Type 0} (checks : Data → List Check) (Is : Data → X → Type 0) (bytes : List ℕ)
    (x : X)
    → Reads checks Is (bytes ++ 10 ∷ []) x ↔ Reads checks Is bytes x
free checks Is bytes x = (
  λ reads. (reads.0, json_without bytes reads.0 reads.1, reads.2, reads.3),
  λ reads. (reads.0, json_with bytes reads.0 reads.1, reads.2, reads.3),
)
