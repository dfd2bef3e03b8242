-- The field of a priority list, written: the ranges in their order, each with its weight unless
-- that is 1 (RFC 9110 section 12.5.4). Project rule.
use Rattle.std.specs.Prelude.{ℕ, ◌+◌, ◌/◌, ◌%◌, ◌==◌, List, [], ◌∷◌, ◌++◌, codes, if◌then◌else◌}
use Rattle.std.specs.List.{join_by}
use Rattle.list_core.specs.Item.{Item}
use Rattle.list_core.specs.declared.scheme.Scheme.{Scheme}
use Rattle.script_docs.specs.StepFields.{Lists}

-- some field reads as the list under the scheme
abbrev pub IsListed : Scheme → List Item → Type 0
IsListed scheme items = (text : List ℕ) × Lists scheme text items

-- ---- a weight in thousandths: RFC 9110 section 12.4.2, without zeros at its end

-- fewer than ten thousandths
abbrev pub ones_text : ℕ → List ℕ
ones_text n = if n == 0 then [] else (48 + n) ∷ []

-- fewer than a hundred thousandths
abbrev pub tens_text : ℕ → List ℕ
tens_text n = if n == 0 then [] else (48 + n / 10) ∷ ones_text (n % 10)

-- what follows the 0 of a weight below 1000
abbrev pub fraction_text : ℕ → List ℕ
fraction_text n = if n == 0 then [] else 46 ∷ (48 + n / 100) ∷ tens_text (n % 100)

-- a weight of 1000 has no text
abbrev pub weight_text : ℕ → List ℕ
weight_text n = if n == 1000 then [] else codes ";q=0" ++ fraction_text n

-- ---- a list

-- an item of a list: its range, and its weight unless that is 1000
abbrev pub item_text : Item → List ℕ
item_text item = item.range ++ weight_text item.weight

-- the items with a comma between each two
abbrev pub field_text : List Item → List ℕ
field_text items = join_by item_text (44 ∷ []) items
