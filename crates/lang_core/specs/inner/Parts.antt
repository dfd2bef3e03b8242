-- What is left of a tag after each of its parts.
use Rattle.std.specs.Prelude.{ℕ, List, ◌++◌}
use Rattle.lang_core.specs.Grammar.{IsLangtag, AreAll, is_private_piece}
use Rattle.lang_core.specs.Parts.{IsPart, extlangs_of}

-- the subtags after the variants
abbrev pub after_variants : {list : List (List ℕ)} → IsLangtag list → List (List ℕ)
after_variants t = t.extensions ++ t.private

-- the subtags after the region
abbrev pub after_region : {list : List (List ℕ)} → IsLangtag list → List (List ℕ)
after_region t = t.variants ++ after_variants t

-- the subtags after the script
abbrev pub after_script : {list : List (List ℕ)} → IsLangtag list → List (List ℕ)
after_script t = t.region ++ after_region t

-- the subtags after the extlangs
abbrev pub after_extlangs : {list : List (List ℕ)} → IsLangtag list → List (List ℕ)
after_extlangs t = t.script ++ after_script t

-- the subtags after the first
abbrev pub after_language : {list : List (List ℕ)} → IsLangtag list → List (List ℕ)
after_language t = extlangs_of t ++ after_extlangs t

-- the subtags are what is left of a tag there, each of 1 to 8 letters or digits
abbrev pub IsRest : (list : List (List ℕ)) → (IsLangtag list → List (List ℕ)) → List (List ℕ)
    → Type 0
IsRest list part subtags = IsPart list part subtags × AreAll is_private_piece subtags
