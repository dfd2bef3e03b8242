-- Keys that are greater than all others of a map.
use Rattle.std.specs.Prelude.{◌≡◌, List, All}
use Rattle.std.specs.declared.cmp.Ordering.{Ordering}
use Rattle.std.specs.declared.cmp.Ordering.TheVariants.{Less}

-- the key of each entry is less than this one
abbrev pub IsAboveAll : {K J : Type 0} → (K → K → Ordering) → K → List (K × J) → Type 0
IsAboveAll cmp key es = All (λ e. cmp e.0 key ≡ Less) es
