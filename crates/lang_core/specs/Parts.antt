use Rattle.std.specs.Prelude.{ℕ, ◌≡◌, ◌⊎◌, List, [], take, drop}
use Rattle.lang_core.specs.Grammar.{IsLangtag}

-- RFC 5646 section 2.2: the subtags are a part of the tag that has this list of subtags, by its
-- derivation as a langtag. A list that is no langtag, which is private use alone or an irregular
-- tag, has no parts.
abbrev pub IsPart : (list : List (List ℕ)) → (IsLangtag list → List (List ℕ)) → List (List ℕ)
    → Type 0
IsPart list part subtags =
    (¬ IsLangtag list × (subtags ≡ [])) ⊎ ((t : IsLangtag list) × (subtags ≡ part t))

-- section 2.2.1: the language is the first subtag
abbrev pub language_of : {list : List (List ℕ)} → IsLangtag list → List (List ℕ)
language_of t = take 1 t.language

-- section 2.2.2: the extlangs are the subtags of the language after its first
abbrev pub extlangs_of : {list : List (List ℕ)} → IsLangtag list → List (List ℕ)
extlangs_of t = drop 1 t.language

-- section 2.2.3: the script, or none
abbrev pub script_of : {list : List (List ℕ)} → IsLangtag list → List (List ℕ)
script_of t = t.script

-- section 2.2.4: the region, or none
abbrev pub region_of : {list : List (List ℕ)} → IsLangtag list → List (List ℕ)
region_of t = t.region

-- section 2.2.5: the variants
abbrev pub variants_of : {list : List (List ℕ)} → IsLangtag list → List (List ℕ)
variants_of t = t.variants

-- two derivations of a langtag have the same parts
pub record HaveSameParts {list : List (List ℕ)} (a b : IsLangtag list) : Type 0 where
  pub language : a.language ≡ b.language
  pub script : a.script ≡ b.script
  pub region : a.region ≡ b.region
  pub variants : a.variants ≡ b.variants
  pub extensions : a.extensions ≡ b.extensions
  pub private : a.private ≡ b.private
