-- Items before what is left of an array.
use Rattle.std.proofs.Common.{◌≡◌, ◌++◌, List, [], ◌∷◌, refl, ap, inl, inr}
use Rattle.std.specs.Prelude.{◌⊎◌, Option, None, Some}
use Rattle.json.specs.Json.{parse_map}
use Rattle.json.specs.Token.{Token}
use Rattle.serde_json.specs.Data.{Data, Items, item}
use Rattle.json_docs.specs.ScanningArrays.{TakesRows}
use Rattle.json_docs.specs.inner.ScanningArrays.{TakesNext}
use Rattle.json_docs.specs.FaultChecks.{Check}
use Rattle.json_docs.specs.Parts.{list_of}
use Rattle.json_docs.specs.declared.fault.DocCause.{DocCause}
use Rattle.json_docs.specs.declared.fault.DocCause.TheVariants.{NoMemory, NotJson}
use Rattle.json_docs.proofs.FaultChecksLemmas.{rows-fail-rest, rows-fail-front, rows-pass}

-- items with others after them
abbrev pub before : List Data → Items → Items
before [] rest = rest
before (d ∷ ds) rest = item d (before ds rest)

-- items with others after them are the two lists
pub list_of-before : (ds : List Data) (rest : Items) → list_of (before ds rest) ≡ ds ++ list_of rest
list_of-before [] rest = refl
list_of-before (d ∷ ds) rest = ap (λ t. d ∷ t) (list_of-before ds rest)

before-push : (ds : List Data) (d : Data) (rest : Items)
    → before ds (item d rest) ≡ before (ds ++ d ∷ []) rest
before-push [] d rest = refl
before-push (e ∷ ds) d rest = ap (item e) (before-push ds d rest)

-- one item more
pub parse_map-push : (ds : List Data) (d : Data) (r : Option (Items × List Token))
    → parse_map (before ds) (parse_map (item d) r) ≡ parse_map (before (ds ++ d ∷ [])) r
parse_map-push ds d None = refl
parse_map-push ds d (Some p) = ap (λ (i : Items). Some (i, p.1)) (before-push ds d p.0)

-- no item is added by none
pub parse_map-none : (r : Option (Items × List Token)) → r ≡ parse_map (before []) r
parse_map-none None = refl
parse_map-none (Some p) = refl

-- ---- one row more

-- one row more is taken, or the first refusal stays
pub TakesRows-next : {S : Type 0} (checks : List Data → Data → List Check)
    (Holds : S → List Data → Type 0) (mid new : S) (refusal next : Option DocCause)
    (front : List Data) (d : Data)
    → TakesRows checks Holds [] mid refusal front
    → TakesNext checks Holds front refusal mid new next d
    → TakesRows checks Holds [] new next (front ++ d ∷ [])
TakesRows-next checks Holds mid new None None front d p q = let r = q p.1 in
    (rows-pass checks [] front (d ∷ []) p.0 r.0, r.1)
TakesRows-next checks Holds mid new None (Some e) front d p q =
    rows-fail-rest checks [] front (d ∷ []) e p.0 (q p.1)
TakesRows-next checks Holds mid new (Some e) None front d p q = cc
TakesRows-next checks Holds mid new (Some e) (Some f) front d p q =
    let same : f ≡ e = cc in
    rw same (rows-fail-front checks [] front (d ∷ []) e p)

-- what follows from a text that is no JSON
pub not_json : (e : DocCause) (P Q : Type 0) → (P → Q) → (e ≡ NoMemory) ⊎ ((e ≡ NotJson) × P)
    → (e ≡ NoMemory) ⊎ ((e ≡ NotJson) × Q)
not_json e P Q follows why = elim why [ inl h ↦ inl h | inr h ↦ inr (h.0, follows h.1) ]
