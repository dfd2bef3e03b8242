-- How many entries the flat list of a map of maps has.
use Rattle.std.proofs.Common.{◌≡◌, ◌+◌, List, ◌∷◌, length, length-append, arith}
use Rattle.std.proofs.lemmas.List.{length-map}
use Rattle.catalogue.specs.CatalogueFlat.{under, flat}

-- Putting entries under an outer key leaves their number the same.
pub length-under : {K L J : Type 0} (k : K) (es : List (L × J)) → length (under k es) ≡ length es
length-under k es = length-map es (λ e. ((k, e.0), e.1))

-- A flat list is as long as its first inner map and the flat list of the rest together.
pub length-flat-cons : {K L J : Type 0} (k : K) (es : List (L × J)) (rest : List (K × List (L × J)))
    → length (flat ((k, es) ∷ rest)) ≡ length es + length (flat rest)
length-flat-cons k es rest =
    omega (arith, length-append (under k es) (flat rest), length-under k es)
