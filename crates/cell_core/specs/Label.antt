-- What a label is (a limit of this project).
use Rattle.std.specs.Prelude.{ℕ, ◌<◌, ◌≤◌, Bool, nat_lt, List, length, map, All}
use Rattle.std.specs.String.{string_bytes}
use Rattle.std.specs.Arc.{arc_value}
use Rattle.std.specs.declared.string.String.{String}
use Rattle.std.specs.declared.sync.Arc.{Arc}
use Rattle.smallvec.specs.SmallVec.{SmallVec}

-- the bytes of each text
abbrev pub texts_of : {Z : Type 0} → List (String Z) → List (List ℕ)
texts_of texts = map string_bytes texts

-- the same of texts that several labels may share
abbrev pub shared_texts : {Z Y : Type 0} → Arc (SmallVec (String Z)) Y → List (List ℕ)
shared_texts texts = let vec = arc_value texts in texts_of vec.items

-- 1 to 64 texts
pub record IsLabelCount (count : ℕ) : Type 0 where
  pub some : 0 < count
  pub most : count ≤ 64

-- over 65,535 bytes
abbrev pub is_too_long : List ℕ → Bool
is_too_long text = nat_lt 65535 (length text)

-- 1 to 64 texts of at most 65,535 bytes each
pub record IsLabel (texts : List (List ℕ)) : Type 0 where
  pub count : IsLabelCount (length texts)
  pub short : All (λ text. length text ≤ 65535) texts
