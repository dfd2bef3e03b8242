-- A row of six parts.
use Rattle.std.proofs.Common.{◌≡◌, ◌∙◌, ℕ, ◌<◌, ◌≤◌, List, [], ◌∷◌, Global, length, get_or, map, ap}
use Rattle.std.proofs.Common.{arith}
use Rattle.std.specs.Prelude.{Option, Some, option_and_then, option_map}
use Rattle.json.specs.declared.value.Value.{Value}
use Rattle.serde_json.specs.Data.{Data}
use Rattle.json_docs.specs.ScanningReads.{seen}
use Rattle.json_docs.specs.Parts.{items_in}
use Rattle.row_docs.specs.ShapesRows.{cell_in, cell_of, label_in, parts_in}
use Rattle.row_docs.specs.EntriesValues.{Row}
use Rattle.row_docs.specs.declared.version.Version.{Version}

cell_read : (version : Version) (i l t s c b : Data) (row : Row) (label : Option (List (List ℕ)))
    → Some row ≡ parts_in version i l t s c → Some label ≡ label_in b
    → Some (row, label) ≡ cell_of version (i ∷ l ∷ t ∷ s ∷ c ∷ b ∷ [])
cell_read version i l t s c b row label p q =
    ap (λ o. option_and_then (λ (r : Row). option_map (λ (k : Option (List (List ℕ))). (r, k)) o)
    (Some row)) q
    ∙ ap (λ o. option_and_then (λ (r : Row). option_map (λ (k : Option (List (List ℕ))). (r, k))
    (label_in b)) o) p

-- six values with these parts are a row with its label
pub cell_whole : (version : Version) (vs : List (Value Global)) (d : Data)
    (i l t s c b : Value Global) (row : Row) (label : Option (List (List ℕ)))
    → 6 ≤ length vs → length vs < 7
    → i ≡ get_or vs 0 i → l ≡ get_or vs 1 l → t ≡ get_or vs 2 t → s ≡ get_or vs 3 s
    → c ≡ get_or vs 4 c → b ≡ get_or vs 5 b
    → Some (map seen vs) ≡ items_in d → Some row ≡ parts_in version (seen i) (seen l) (seen t)
    (seen s) (seen c) → Some label ≡ label_in (seen b)
    → Some (row, label) ≡ cell_in version d
cell_whole version (v0 ∷ v1 ∷ v2 ∷ v3 ∷ v4 ∷ v5 ∷ []) d i l t s c b row label least most p0 p1 p2 p3
    p4 p5 items parts texts =
    let read = cell_read version (seen i) (seen l) (seen t) (seen s) (seen c)
    (seen b) row label parts texts in
    rw (p0, p1, p2, p3, p4, p5) at read ∙ ap (option_and_then (cell_of version)) items
cell_whole version vs d i l t s c b row label least most p0 p1 p2 p3 p4 p5 items parts texts =
    absurd (omega arith)
