-- Maps of maps as one list of entries, in ascending order of both keys.
use Rattle.std.specs.Prelude.{◌<◌, List, All, length, map}
use Rattle.std.specs.List.{flat_map}
use Rattle.std.specs.declared.cmp.Ordering.{Ordering}
use Rattle.cell_core.specs.Keyed.{IsMap}

-- the entries of one inner map, each with the outer key
abbrev pub under : {K L J : Type 0} → K → List (L × J) → List ((K × L) × J)
under k es = map (λ e. ((k, e.0), e.1)) es

-- the entries of all inner maps, in the order of the outer keys
abbrev pub flat : {K L J : Type 0} → List (K × List (L × J)) → List ((K × L) × J)
flat es = flat_map (λ e. under e.0 e.1) es

-- a map that is not empty
pub record IsInner {L J : Type 0} (Q : L → L → Ordering) (es : List (L × J)) : Type 0 where
  pub map : IsMap Q es
  pub some : 0 < length es

-- a map of maps, of which none is empty
pub record IsNested {K L J : Type 0} (P : K → K → Ordering) (Q : L → L → Ordering)
    (es : List (K × List (L × J))) : Type 0 where
  pub outer : IsMap P es
  pub inners : All (λ e. IsInner Q e.1) es
