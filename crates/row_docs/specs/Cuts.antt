-- Values as far as a row may have them. Project rule.
use Rattle.std.specs.Prelude.{ℕ, zero, suc, List, [], ◌∷◌, Bool, false, ◌||◌, nat_lt, length, map}
use Rattle.std.specs.Prelude.{take, if◌then◌else◌, is_some, unwrap_or}
use Rattle.std.specs.List.{list_all}
use Rattle.cell_core.specs.declared.fault.CellFault.TheVariants.{LabelCount}
use Rattle.serde_json.specs.Data.{Data, null, boolean, number, string, array, object}
use Rattle.serde_json.specs.Find.{as_str}
use Rattle.serde_json.specs.View.{items_of}
use Rattle.json_docs.specs.Parts.{items_in, list_of}
use Rattle.json_docs.specs.declared.fault.DocCause.{DocCause}
use Rattle.json_docs.specs.declared.fault.DocCause.TheVariants.{Field}
use Rattle.json_docs.specs.declared.fault.FieldFault.TheVariants.{Cell}

-- ---- what is kept of a value

-- all are texts
abbrev pub are_texts : List Data → Bool
are_texts ds = list_all (λ d. is_some (as_str d)) ds

-- whether an array of a row may have these items: at most six of any kind, or texts alone
abbrev pub fits : List Data → Bool
fits ds = nat_lt (length ds) 7 || are_texts ds

-- what no row has
abbrev pub nothing : Data
nothing = boolean false

-- a value whose arrays are cut so, without objects
abbrev pub cut_by : (List Data → Data) → Data → Data
cut_by items null = null
cut_by items (boolean b) = boolean b
cut_by items (number n) = number n
cut_by items (string s) = string s
cut_by items (array ds) = items (list_of ds)
cut_by items (object ms) = nothing

-- an array of the first 65 items, each cut, where a row may have it
abbrev pub cut_items : (Data → Data) → List Data → Data
cut_items cut ds = if fits ds then array (items_of (take 65 (map cut ds))) else nothing

-- what is kept of a value with arrays that nest at most this deep
abbrev pub cut_to : ℕ → Data → Data
cut_to zero d = cut_by (λ ds. nothing) d
cut_to (suc levels) d = cut_by (cut_items (cut_to levels)) d

-- ---- how many texts there are

-- the count of the last one
abbrev pub of_last : (Data → ℕ) → List Data → ℕ
of_last count [] = 0
of_last count (d ∷ []) = count d
of_last count (d ∷ e ∷ ds) = of_last count (e ∷ ds)

-- texts by their number, other items by the last one, where a row may have them
abbrev pub texts_among : (Data → ℕ) → List Data → ℕ
texts_among count ds =
    if are_texts ds then length ds else (if fits ds then of_last count ds else 0)

-- how many texts a value has, or the last array in it, to this depth
abbrev pub texts_to : ℕ → Data → ℕ
texts_to zero d = 0
texts_to (suc levels) d = texts_among (texts_to levels) (unwrap_or (items_in d) [])

-- the refusal of a label of so many texts, where the label kept is refused for its number of texts
abbrev pub recounted : ℕ → DocCause → DocCause
recounted texts (Field k (Cell (LabelCount count))) = Field k (Cell (LabelCount texts))
recounted texts cause = cause
